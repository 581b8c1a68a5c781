-- The list's fault, or the table of the list's ranges.
use Rattle.std.proofs.Common.{◌≤◌, ap, arith}
use Rattle.std.proofs.lemmas.Result.{err_from_is_err_and}
use Rattle.route.specs.Shown.{counted}
use Rattle.ranges.specs.Ranges.{max_ranges}
use Rattle.dxr.proofs.DxrTable.{split-16}
use Rattle.dxr.proofs.Builds.{built-refused, built-split, made_fault, made-fine, made_table, made-splittable}
use Rattle.dxr.proofs.build.build.Goals as goal

-- the rows have room for any ranges
roomy : max_ranges ≤ 8193
roomy = omega arith

pub returns-in_err-n : goal.returns-in_err-n
returns-in_err-n c =
    let p = err_from_is_err_and c.from_residual.result c.from_residual.ensures.1 in
    rw (p.1, p.2) (built-refused c.if-main-ne-MAIN_WORDS.false (made_fault roomy roomy c.build.ensures (ap counted c.in_err-n.was)))

pub invariant_of-table-2 : goal.invariant_of-table-2
invariant_of-table-2 c = record {
  splittable = made-splittable roomy roomy c.build.ensures (ap counted c.in_ok-n.was) 16 split-16 (λ i. (c.type_inv.addresses i).fits);
}

pub returns : goal.returns
returns c =
    let e = ap counted c.in_ok-n.was in
    built-split c.if-main-ne-MAIN_WORDS.false (made-fine roomy roomy c.build.ensures e)
    (rw (made_table roomy roomy c.build.ensures e) at c.split.ensures)
