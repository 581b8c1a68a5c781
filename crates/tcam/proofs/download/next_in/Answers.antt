-- What the pass comes to at slot i, and at the end, for whatever was asked from.
use Rattle.std.proofs.Common.{◌≡◌, true, false, refl, sym, ◌∙◌, arith, rules}
use Rattle.tcam.specs.Slots.{is_free, keeps_s1}
use Rattle.tcam.specs.Shown.{cell_of}
use Rattle.tcam.proofs.DownloadPass.{pass-stop, pass-free, pass_kept, pass-turn, pass-none, pass-some}
use Rattle.tcam.proofs.download.next_in.Goals as goal
use Rattle.tcam.proofs.download.next_in.Goals.{then-ahead-nearest, else-ahead-nearest}

pub returns-then-broken : goal.returns-then-broken
returns-then-broken c = record {
  is = λ from b. pass-stop (c.loop-i.invariant.1 from b) (search rules) c.cell-c.ensures (sym c.is_valid-valid.ensures ∙ c.if-broken.true);
}

-- a free slot is passed over
pub loop-i-preserved-then-is_free : goal.loop-i-preserved-then-is_free
loop-i-preserved-then-is_free c = (
  c.loop-i.invariant.0,
  λ from b. pass-free (c.loop-i.invariant.1 from b) (search rules) c.cell-c.ensures (sym c.is_valid-valid.ensures ∙ c.if-broken.false)
      (sym c.is_free.ensures ∙ c.if-is_free.true),
)

-- a used one is kept where it is nearer
pub loop-i-preserved : goal.loop-i-preserved
loop-i-preserved c =
    let valid : keeps_s1 32 (cell_of c.cell-c.result) ≡ true = sym c.is_valid-valid.ensures ∙ c.if-broken.false in
    let used : is_free (cell_of c.cell-c.result) ≡ false = sym c.is_free.ensures ∙ c.if-is_free.false in
    let ahead = rw (c.key_of.ensures, c.prefix.ensures.address, c.prefix.ensures.length) at c.ahead_of-ahead.ensures in
    elim c.if-ahead-nearest.branch [
      | then-ahead-nearest w ↦ (
        rw w.next-is (omega arith),
        λ from b. rw (w.nearest-is, w.next-is)
            (pass_kept (c.loop-i.invariant.1 from b) (search rules) c.cell-c.ensures valid used (search rules) (omega arith) ahead refl w.if-ahead-nearest.true),
      )
      | else-ahead-nearest w ↦ (
        rw w.next-is c.loop-i.invariant.0,
        λ from b. rw (w.nearest-is, w.next-is)
            (pass-turn (c.loop-i.invariant.1 from b) (search rules) c.cell-c.ensures valid used (search rules) (omega arith) ahead w.if-ahead-nearest.false),
      )
    ]

pub returns-in-None : goal.returns-in-None
returns-in-None c = record { is = λ from b. pass-none (c.loop-i.invariant.1 from b) (search rules) c.in-None.is }

pub returns-in-Some : goal.returns-in-Some
returns-in-Some c = record { is = λ from b. pass-some (c.loop-i.invariant.1 from b) (search rules) c.in-Some.is c.cell.ensures }
