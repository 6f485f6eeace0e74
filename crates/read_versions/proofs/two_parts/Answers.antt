use Rattle.basis.proofs.Std.{arith, sym, ◌∙◌}
use Rattle.read_versions.specs.Version.{behind, one_part, two_parts}
use Rattle.read_versions.proofs.Parts.{both_there, rest_bad, first_bad, first_most, one_rest_most}
use Rattle.read_versions.proofs.two_parts.Goals as goal

pub overflow_mul-result : goal.overflow_mul-result
overflow_mul-result c =
    let h = first_most 256 one_part _ _ c.dot-e.ensures c.numeral-first.ensures c.one_rest-rest.ensures c.in-Is.is in
    record { fits = omega (arith, h) }

pub overflow_add-result : goal.overflow_add-result
overflow_add-result c =
    let h = first_most 256 one_part _ _ c.dot-e.ensures c.numeral-first.ensures c.one_rest-rest.ensures c.in-Is.is in
    let k = one_rest_most (behind c.args.s.now) _ (sym c.one_rest-rest.ensures ∙ c.in-Is-rest.is) in
    record { fits = omega (arith, h, k) }

pub returns-in-Is-rest : goal.returns-in-Is-rest
unfolding two_parts
returns-in-Is-rest c = both_there 256 one_part _ _ c.dot-e.ensures c.numeral-first.ensures c.one_rest-rest.ensures c.in-Is.is c.in-Is-rest.is

pub returns-in-No-rest : goal.returns-in-No-rest
unfolding two_parts
returns-in-No-rest c = rest_bad 256 one_part _ _ c.dot-e.ensures c.numeral-first.ensures c.one_rest-rest.ensures c.in-Is.is c.in-No-rest.is

pub returns-in-No : goal.returns-in-No
unfolding two_parts
returns-in-No c = first_bad 256 one_part _ _ c.dot-e.ensures c.numeral-first.ensures c.one_rest-rest.ensures c.in-No.is
