-- Where the run just before slot i begins, and what it tells of slot i.
use Rattle.std.proofs.Common.{◌≡◌, ℕ, zero, suc, ◌+◌, ◌-◌, ◌≤◌, true, false, cond, eqb, List, [], slice_index, sym, refl, ap, ◌∙◌, add-one, arith, eq-eqb, ne_eqb, eqb-true}
use borrow.Author.Tests.{eqb-false, not-false}
use Rattle.route.specs.Lists.{any}
use Rattle.route.specs.Loops.{before, places_from}
use Rattle.tcam.specs.Slots.{Cell, is_free, length_in}
use Rattle.tcam.specs.Runs.{run_of, repeats_in_run}
use Rattle.tcam.specs.Shown.{cell_of, cell_at}
use Rattle.tcam.specs.Searches.{any_between}
use Rattle.tcam.specs.Loops.{is_used, SeenWith, SeenPast, RunBefore, FreeBetween, repeats_at}
use Rattle.tcam.specs.declared.image.Seen.{Seen}
use Rattle.tcam.specs.declared.image.Here.{Here}
use Rattle.tcam.specs.Held.{slot_at}
use Rattle.route.proofs.Tests.{by_test, either, or_parts}
use Rattle.tcam.proofs.Runs.{run-addresses, repeats-in-run}
use Rattle.tcam.proofs.Searched.{any-places}

-- no entry stands just before: the run begins at the slot itself
at-start : {at : ℕ → Cell} {n i : ℕ} → ((m : ℕ) → run_of m (before at i) ≡ []) → RunBefore at i n i
at-start {at} {n} {i} h = record {
  within = omega arith;
  is = λ m. h m ∙ sym (either (λ l. l ≡ []) (eqb m n) (λ e. let z : i - i ≡ 0 = omega arith in rw z) (λ e. refl));
}

-- behind a free slot, and behind more of them
behind-free : {at : ℕ → Cell} {n i : ℕ} → is_free (at i) ≡ true → RunBefore at (suc i) n (suc i)
behind-free {at} {n} {i} e = at-start (λ m. rw e)

pub run_past : {ad ts : List ℕ} {r : ℕ} {s next : Seen} (i : ℕ) → is_free (cell_at ad ts i) ≡ true → FreeBetween ad ts (i + 1) r → SeenPast r s next →
    RunBefore (cell_at ad ts) next.run.0 next.nearest.0 r
run_past {ad} {ts} {r} {s} {next} i f e w =
    let z : i + 1 + (r - (i + 1)) ≡ r = omega (arith, e.behind) in
    rw w.run (rw z at (go (r - (i + 1)) e.free))
  where
    go : (k : ℕ) → any is_used (places_from (cell_at ad ts) (i + 1) k) ≡ false → RunBefore (cell_at ad ts) (i + 1 + k) next.nearest.0 (i + 1 + k)
    go zero h = let z : i + 1 + 0 ≡ suc i = omega arith in rw z (behind-free f)
    go (suc k) h =
        let z : i + 1 + suc k ≡ suc (i + 1 + k) = omega arith in
        rw z (behind-free (not-false (is_free (cell_at ad ts (i + 1 + k))) (or_parts (is_used (cell_at ad ts (i + 1 + k))) _ h).0))

-- behind an entry in slot i: the run of its length just before it begins at slot r, and goes on with it
with-entry : {at : ℕ → Cell} {i : ℕ} (r : ℕ) → r ≤ i → is_free (at i) ≡ false → run_of (length_in (at i)) (before at i) ≡ places_from at r (i - r) →
    RunBefore at r (length_in (at i)) (i + 1)
with-entry {at} {i} r l u h = rw add-one (record {
  within = omega arith;
  is = λ m. by_test (eqb m (length_in (at i)))
      (λ e.
      let z : suc i - r ≡ suc (i - r) = omega arith in
      let y : r + (i - r) ≡ i = omega arith in
      let f = eqb-true m (length_in (at i)) e in
      let g : run_of m (before at i) ≡ places_from at r (i - r) = ap (λ (n : ℕ). run_of n (before at i)) f ∙ h in
      rw (e, z, y, u, eq-eqb (length_in (at i)) m (sym f), g))
      (λ e. rw (e, u, ne_eqb (length_in (at i)) m (λ x. eqb-false m (length_in (at i)) e (sym x))));
})

-- it is the run that was kept, or none and begins with the entry
run-used : {at : ℕ → Cell} {run n i : ℕ} → RunBefore at run n i → is_free (at i) ≡ false →
    RunBefore at (cond (eqb (length_in (at i)) n) run i) (length_in (at i)) (i + 1)
run-used {at} {run} {n} {i} b u =
    either (λ r. RunBefore at r (length_in (at i)) (i + 1)) (eqb (length_in (at i)) n)
    (λ t. with-entry run b.within u (rw t at (b.is (length_in (at i)))))
    (λ t. with-entry i (omega arith) u (let z : i - i ≡ 0 = omega arith in rw (z, b.is (length_in (at i)), t)))

pub run-with : {W : ℕ} {at : ℕ → Cell} {i : ℕ} {s next : Seen} → RunBefore at s.run.0 s.nearest.0 i → {c : Cell} → c ≡ at i →
    is_free c ≡ false → SeenWith W c i s next → RunBefore at next.run.0 next.nearest.0 (i + 1)
run-with b is u w = rw (w.run, w.nearest, is) (run-used b (rw is at u))

-- what an entry repeats in its run: nothing where its length is not the nearest, else what has its address
module _ (ad ts : List ℕ) {run n i : ℕ} (b : RunBefore (cell_at ad ts) run n i) (c : Cell) (u : is_free c ≡ false) where
  pub run-other : eqb (length_in c) n ≡ false → false ≡ repeats_in_run c (before (cell_at ad ts) i)
  run-other e = rw (u, b.is (length_in c), e)

  pub run-same : eqb (length_in c) n ≡ true → {a : ℕ} → a ≡ c.address →
      any_between (λ (j : ℕ). eqb (slice_index ad j) a) run i ≡ repeats_in_run c (before (cell_at ad ts) i)
  run-same e f =
      rw (f, u, run-addresses c (before (cell_at ad ts) i), b.is (length_in c), e) (any-places (λ (d : Cell). eqb d.address c.address) (cell_at ad ts) run (i - run))

-- a slot of the pass repeats what it repeats in its run
module _ (h : Here) (u : is_free (cell_of h.cell) ≡ false) where
  in-run : repeats_in_run (cell_of h.cell) (before (slot_at h.table.now) h.slot.0)
      ≡ repeats_at (slot_at h.table.now) h.slot.0
  in-run =
      let at = slot_at h.table.now in
      ap (λ (x : Cell). repeats_in_run x (before at h.slot.0)) h.holds
      ∙ sym (repeats-in-run 32 (at h.slot.0) (before at h.slot.0) (h.placed, h.tested.in_order))

  pub here-other : eqb (length_in (cell_of h.cell)) h.seen.nearest.0 ≡ false → false ≡ repeats_at (slot_at h.table.now) h.slot.0
  here-other e = run-other h.table.now.addresses.now h.table.now.tags.now h.tested.run (cell_of h.cell) u e ∙ in-run

  pub here-same : eqb (length_in (cell_of h.cell)) h.seen.nearest.0 ≡ true →
      any_between (λ (j : ℕ). eqb (slice_index h.table.now.addresses.now j) h.cell.address) h.seen.run.0 h.slot.0
      ≡ repeats_at (slot_at h.table.now) h.slot.0
  here-same e = run-same h.table.now.addresses.now h.table.now.tags.now h.tested.run (cell_of h.cell) u e refl ∙ in-run
