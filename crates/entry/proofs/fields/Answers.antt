use Rattle.entry.proofs.Words.{from_words}
use Rattle.entry.proofs.fields.Goals as goal

pub returns : goal.returns
returns c =
    from_words c.args.h c.args.l c.ranges.l.fits
    c.field-3.ensures
    c.field-4.ensures
    c.field-5.ensures
    c.field-6.ensures
    c.time_in.ensures
    c.field.ensures
    c.field-2.ensures
