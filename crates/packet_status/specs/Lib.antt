pub mod StatusReply
