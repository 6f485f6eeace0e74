use Rattle.basis.proofs.Std.{arith, sym, ◌∙◌}
use Rattle.read_versions.specs.Version.{behind, two_parts, version_of}
use Rattle.read_versions.proofs.Parts.{both_there, rest_bad, first_bad, first_most, two_rest_most}
use Rattle.read_versions.proofs.read_version.Goals as goal

pub overflow_mul-result : goal.overflow_mul-result
overflow_mul-result c =
    let h = first_most 65536 two_parts _ _ c.dot-e.ensures c.numeral-first.ensures c.two_rest-rest.ensures c.in-Is.is in
    record { fits = omega (arith, h) }

pub overflow_add-result : goal.overflow_add-result
overflow_add-result c =
    let h = first_most 65536 two_parts _ _ c.dot-e.ensures c.numeral-first.ensures c.two_rest-rest.ensures c.in-Is.is in
    let k = two_rest_most (behind c.args.s.now) _ (sym c.two_rest-rest.ensures ∙ c.in-Is-rest.is) in
    record { fits = omega (arith, h, k) }

pub returns-in-Is-rest : goal.returns-in-Is-rest
unfolding version_of
returns-in-Is-rest c = both_there 65536 two_parts _ _ c.dot-e.ensures c.numeral-first.ensures c.two_rest-rest.ensures c.in-Is.is c.in-Is-rest.is

pub returns-in-No-rest : goal.returns-in-No-rest
unfolding version_of
returns-in-No-rest c = rest_bad 65536 two_parts _ _ c.dot-e.ensures c.numeral-first.ensures c.two_rest-rest.ensures c.in-Is.is c.in-No-rest.is

pub returns-in-No : goal.returns-in-No
unfolding version_of
returns-in-No c = first_bad 65536 two_parts _ _ c.dot-e.ensures c.numeral-first.ensures c.two_rest-rest.ensures c.in-No.is
