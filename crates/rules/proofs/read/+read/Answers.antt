use Rattle.std.proofs.Common.{Some, refl, ap, ◌∙◌, arith}
use Rattle.std.proofs.lemmas.Result.{err_from_is_err_and}
use Rattle.rules.proofs.Turns.{is_leaf, has_one, first_refused, has_two}
use Rattle.rules.proofs.read.+read.Goals as goal

pub read-requires-in-Two-2 : goal.read-requires-in-Two-2
read-requires-in-Two-2 t c =
    let mid = c.in_ok-mid-in-Two.ensures.onward _ refl in
    (let f = mid.forward in omega arith, mid.within)

pub returns-in-Nothing : goal.returns-in-Nothing
returns-in-Nothing t c =
    is_leaf _ _ _ _ _ c.get.ensures.lookup c.in_ok-row.ensures.ok_part _ c.behind.ensures (c.in_ok-ok_or.ensures.ok_part ∙ ap Some c.in-Nothing.is)

pub returns-in-One : goal.returns-in-One
returns-in-One t c =
    has_one _ _ _ _ _ c.get.ensures.lookup c.in_ok-row.ensures.ok_part _ c.behind.ensures _ _ (c.in_ok-ok_or.ensures.ok_part ∙ ap Some c.in-One.is) c.read.ensures

pub returns-in_err-mid-in-Two : goal.returns-in_err-mid-in-Two
returns-in_err-mid-in-Two t c =
    let p = err_from_is_err_and c.from_residual-in_err-mid-in-Two.result c.from_residual-in_err-mid-in-Two.ensures.1 in
    rw (p.1, p.2) (first_refused _ _ _ _ _ c.get.ensures.lookup c.in_ok-row.ensures.ok_part _ c.behind.ensures _ _ c.in_err-mid-in-Two.field-0.0 (c.in_ok-ok_or.ensures.ok_part ∙ ap Some c.in-Two.is) c.in_err-mid-in-Two.ensures)

pub returns-in_ok-mid-in-Two : goal.returns-in_ok-mid-in-Two
returns-in_ok-mid-in-Two t c =
    has_two _ _ _ _ _ c.get.ensures.lookup c.in_ok-row.ensures.ok_part _ c.behind.ensures _ _ _ _ (c.in_ok-ok_or.ensures.ok_part ∙ ap Some c.in-Two.is) c.in_ok-mid-in-Two.ensures c.read-in-Two-2.ensures
