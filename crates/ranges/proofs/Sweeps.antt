-- The sweep makes the merged ranges: what it has made says the answer up to where it is, and what is open or still to come gives the
-- answer from there on.
use Rattle.std.proofs.Common.{◌≡◌, ℕ, ◌+◌, ◌-◌, ◌^◌, ◌<◌, ◌≤◌, true, false, cond, not, eqb, ltb, leb, List, [], ◌∷◌, ◌++◌, sym, refl, ◌∙◌, mod-eq_of_lt, arith, pow_pos, ne_eqb, eqb-true, leb-true}
use mathlib.Core.List.Memᴰ
use borrow.Author.Tests.{eqb-false, not-true}
use Rattle.route.specs.Rule.{Route, span, matches, answer}
use Rattle.route.specs.RightHop.{◌∈◌}
use Rattle.route.specs.RowsOfSet.{Valid}
use Rattle.route.proofs.Tests.{orders, by_test, either, is_false, and_parts}
use Rattle.route.proofs.PrefixOrder.{no-later}
use Rattle.route.proofs.Members.{each_of}
use Rattle.route.proofs.Spans.{span_pos, matches-span}
use Rattle.ranges.proofs.Spans.{end_past}
use Rattle.ranges.specs.Ranges.{Range, range, past_end, ranges_of}
use Rattle.ranges.specs.Sweeps.{Sweep, sweep, last_of, joined, open_hop, extended, advanced, ends_by, closed, closed_by, opening, swept, swept_ranges}
use Rattle.ranges.proofs.Boundaries.{Placed}
use Rattle.ranges.proofs.Says.{Says, Table}
use Rattle.ranges.proofs.LastMatch.{AllInOrder, last_hop, last_longest}
use Rattle.ranges.proofs.RangesAgree.{ranges_once}

-- ranges that say f up to x, and one more from x on, say f up to y
module _ (f : ℕ → ℕ) (x y g : ℕ) (l : x < y) (same : (q : ℕ) → x ≤ q → q < y → f q ≡ g) where
  last_longer : (lo h : ℕ) (rs : List Range) → Says f x lo h rs → last_of h rs ≡ g → Says f y lo h rs
  last_longer lo h [] s e =
      (omega (arith, s.0), λ q m n. by_test (ltb q x) (λ t. s.1 q m (omega orders)) (λ t. same q (omega orders) n ∙ sym e))
  last_longer lo h (r ∷ rs) s e = (s.0, s.1, s.2, last_longer r.start r.hop rs s.3 e)

  one_more : (lo h : ℕ) (rs : List Range) → Says f x lo h rs → (last_of h rs ≡ g → ⊥) → Says f y lo h (rs ++ (range x g ∷ []))
  one_more lo h [] s n = (s.0, s.1, (λ e. n (sym e)), (l, same))
  one_more lo h (r ∷ rs) s n = (s.0, s.1, s.2, one_more r.start r.hop rs s.3 n)

  joined_table : (t : List Range) → Table f x t → Table f y (joined t (range x g))
  joined_table [] s = (s, rw s at (let e : Says f y x g [] = (l, same) in e))
  joined_table (r ∷ rs) s = either (Table f y) (eqb (last_of r.hop rs) g)
      (λ e. (s.0, last_longer 0 r.hop rs s.1 (eqb-true _ g e)))
      (λ e. (s.0, one_more 0 r.hop rs s.1 (eqb-false _ g e)))

-- where a prefix ends, and what follows from it
module _ (W : ℕ) (r : Route) (v : Valid W r) where
  abbrev end : ℕ
  end = r.address + span W r.length

  missed : (q : ℕ) → (r.address ≤ q → q < end → ⊥) → matches W r.address r.length q ≡ false
  missed q n = is_false _ (λ e. let h = (matches-span W r.address r.length q v.aligned).0 e in n h.0 h.1)

  ends_there : (x : ℕ) → r.address < 2 ^ W → ends_by W x r ≡ true → (past_end W r ≡ end) × (past_end W r ≤ x)
  ends_there x below e =
      let h = and_parts (not (eqb (past_end W r) 0)) (leb (past_end W r) x) e in
      let n = eqb-false (past_end W r) 0 (not-true _ h.0) in
      (end_past W r v below (positive n), leb-true (past_end W r) x h.1)
    where
      positive : {n : ℕ} → (n ≡ 0 → ⊥) → 0 < n
      positive {n} k = by_test (eqb n 0) (λ t. absurd (k (eqb-true n 0 t))) (λ t. omega orders)

  lasts_beyond : (x : ℕ) → x < 2 ^ W → ends_by W x r ≡ false → x < end
  lasts_beyond x below e = by_test (ltb end (2 ^ W))
      (λ t. let p : past_end W r ≡ end = mod-eq_of_lt (omega orders) in
      let e' = rw (p, ne_eqb end 0 (λ z. absurd (omega (arith, span_pos W r.length)))) at e in omega orders)
      (λ t. omega orders)

-- the hop of the first of the routes that matches q, 0 where none does
abbrev first_hop : ℕ → List Route → ℕ → ℕ
first_hop W [] q = 0
first_hop W (r ∷ rs) q = cond (matches W r.address r.length q) r.hop (first_hop W rs q)

-- routes still to come, in order of address from x on
abbrev pub Follow : ℕ → ℕ → List Route → Type 0
Follow W x [] = Unit {0}
Follow W x (r ∷ rs) = Valid W r × (x ≤ r.address) × (r.address < 2 ^ W) × Follow W r.address rs

follow_from : (W x y : ℕ) (rs : List Route) → y ≤ x → Follow W x rs → Follow W y rs
follow_from W x y [] l f = tt
follow_from W x y (r ∷ rs) l f = (f.0, omega (arith, f.1), f.2, f.3)

-- before the first of them none matches
not_yet : (W h x : ℕ) (rs : List Route) (q : ℕ) → Follow W x rs → q < x → last_hop W h rs q ≡ h
not_yet W h x [] q f l = refl
not_yet W h x (r ∷ rs) q f l =
    rw (missed W r f.0 q (λ m n. absurd (omega (arith, f.1)))) (not_yet W h r.address rs q f.3 (omega (arith, f.1)))

-- the prefix opened last does not end before x
abbrev Lasts : ℕ → ℕ → List Route → Type 0
Lasts W x [] = Unit {0}
Lasts W x (r ∷ rs) = x ≤ r.address + span W r.length

lasts_less : (W x : ℕ) (rs : List Route) → Lasts W (x + 1) rs → Lasts W x rs
lasts_less W x [] l = tt
lasts_less W x (r ∷ rs) l = omega arith

-- the sweep stands at an address: its ranges say f up to there; from there on f is the hop of the last match of what is to come, or
-- else of the first match of what is open
pub record Stands (W : ℕ) (f : ℕ → ℕ) (s : Sweep) (rest : List Route) : Type 0 where
  pub said : Table f s.reached s.made
  pub below : s.reached < 2 ^ W
  pub begun : (r : Route) → r ∈ s.opened → Valid W r × (r.address ≤ s.reached)
  pub still : (q : ℕ) → s.reached ≤ q → q < 2 ^ W → f q ≡ last_hop W (first_hop W s.opened q) rest q

module _ (W : ℕ) (f : ℕ → ℕ) where
  -- up to x, where nothing opens or closes, f is the hop of the prefix opened last
  constant : (s : Sweep) (rest : List Route) → Stands W f s rest → (x : ℕ) → x ≤ 2 ^ W → Lasts W x s.opened → Follow W x rest →
      (q : ℕ) → s.reached ≤ q → q < x → f q ≡ open_hop s.opened
  constant s rest h x top lasts fol q l b = h.still q l (omega arith) ∙ not_yet W _ x rest q fol b ∙ of_open s.opened h.begun lasts
    where
      of_open : (rs : List Route) → ((r : Route) → r ∈ rs → Valid W r × (r.address ≤ s.reached)) → Lasts W x rs → first_hop W rs q ≡ open_hop rs
      of_open [] o k = refl
      of_open (r ∷ rs) o k =
          let m = o r (Memᴰ.head refl) in
          rw ((matches-span W r.address r.length q m.0.aligned).1 (omega (arith, m.1), omega arith))

  advances : (s : Sweep) (rest : List Route) → Stands W f s rest → (x : ℕ) → x < 2 ^ W → Lasts W x s.opened → Follow W x rest →
      Stands W f (advanced x s) rest
  advances s rest h x top lasts fol = by_test (ltb s.reached x)
      (λ t. rw t (record {
        said = joined_table f s.reached x (open_hop s.opened) (omega orders) (constant s rest h x (omega arith) lasts fol) s.made h.said;
        below = top;
        begun = λ r m. ((h.begun r m).0, omega (orders, (h.begun r m).1));
        still = λ q l b. h.still q (omega orders) b;
      }))
      (λ t. rw t h)

  -- what it stands at then
  reached_at : (s : Sweep) (x : ℕ) → s.reached ≤ x → (advanced x s).reached ≡ x
  reached_at s x l = by_test (ltb s.reached x) (λ t. rw t) (λ t. rw t (omega orders))

  at_least : (s : Sweep) (x : ℕ) → x ≤ (advanced x s).reached
  at_least s x = by_test (ltb s.reached x) (λ t. rw t (omega arith)) (λ t. rw t (omega orders))

  at_most : (s : Sweep) (x y : ℕ) → s.reached ≤ y → x ≤ y → (advanced x s).reached ≤ y
  at_most s x y l m = by_test (ltb s.reached x) (λ t. rw t m) (λ t. rw t l)

  same_open : (s : Sweep) (x : ℕ) → (advanced x s).opened ≡ s.opened
  same_open s x = by_test (ltb s.reached x) (λ t. rw t) (λ t. rw t)

  -- a prefix that has ended is closed
  closes : (s : Sweep) (rest : List Route) (r : Route) (rs : List Route) → s.opened ≡ r ∷ rs → Valid W r →
      r.address + span W r.length ≤ s.reached → Stands W f s rest → Stands W f (sweep rs s.reached s.made) rest
  closes s rest r rs e v l h = record {
    said = h.said;
    below = h.below;
    begun = λ u m. h.begun u (rw e (Memᴰ.tail m));
    still = λ q m b. let k = rw (e, missed W r v q (λ _ n. absurd (omega arith))) at (h.still q m b) in k;
  }

  module _ (x : ℕ) (top : x < 2 ^ W) (rest : List Route) (fol : Follow W x rest) where
    closing : (rs : List Route) (a : ℕ) (t : List Range) → a ≤ x → Stands W f (sweep rs a t) rest →
        let c = closed W x rs a t in Stands W f c rest × (c.reached ≤ x) × Lasts W (x + 1) c.opened
    closing [] a t l h = (h, l, tt)
    closing (r ∷ rs) a t l h = by_test (ends_by W x r)
        (λ e. let p = ends_there W r v x below e in
        let s = sweep (r ∷ rs) a t in
        let y = past_end W r in
        let lasts : Lasts W y (r ∷ rs) = omega (arith, p.0) in
        let at = advances s rest h y (omega (arith, p.1)) lasts (follow_from W x y rest p.1 fol) in
        let done = closes (advanced y s) rest r rs (same_open s y) v (omega (arith, p.0, at_least s y)) at in
        rw e (closing rs (advanced y s).reached (advanced y s).made (at_most s y x l p.1) done))
        (λ e. let b = lasts_beyond W r v x top e in
        let lasts : Lasts W (x + 1) (r ∷ rs) = omega arith in
        rw e (h, l, lasts))
      where
        v : Valid W r
        v = (h.begun r (Memᴰ.head refl)).0

        below : r.address < 2 ^ W
        below = omega (arith, (h.begun r (Memᴰ.head refl)).1, h.below)

  -- a prefix is opened
  opens : (s : Sweep) (r : Route) (rest : List Route) → Follow W s.reached (r ∷ rest) → Stands W f s (r ∷ rest) →
      Stands W f (opening W s r) rest × ((opening W s r).reached ≡ r.address)
  opens s r rest fol h =
      let here : Follow W r.address (r ∷ rest) = (fol.0, omega arith, fol.2, fol.3) in
      let k = closing r.address fol.2 (r ∷ rest) here s.opened s.reached s.made fol.1 h in
      let c = closed_by W r.address s in
      let g = advances c (r ∷ rest) k.0 r.address fol.2 (lasts_less W r.address c.opened k.2) here in
      let e = reached_at c r.address k.1 in (
        record {
          said = g.said;
          below = g.below;
          begun = each_of {P = λ (u : Route). Valid W u × (u.address ≤ (opening W s r).reached)} r _ (fol.0, omega (arith, e)) g.begun;
          still = g.still;
        },
        e,
      )

  sweeps : (s : Sweep) (rest : List Route) → Follow W s.reached rest → Stands W f s rest → Stands W f (swept W s rest) []
  sweeps s [] fol h = h
  sweeps s (r ∷ rest) fol h =
      let k = opens s r rest fol h in
      sweeps (opening W s r) rest (rw k.1 fol.3) k.0

  -- at the end its ranges say f up to the last address of all
  ends : (s : Sweep) → Stands W f s [] → Table f (2 ^ W) (extended (closed_by W (2 ^ W - 1) s))
  ends s h =
      let last : 2 ^ W - 1 < 2 ^ W = omega (arith, pow_pos W) in
      let k = closing (2 ^ W - 1) last [] tt s.opened s.reached s.made (omega (arith, h.below)) h in
      let c = closed_by W (2 ^ W - 1) s in
      let e : 2 ^ W - 1 + 1 ≡ 2 ^ W = omega (arith, pow_pos W) in
      joined_table f c.reached (2 ^ W) (open_hop c.opened) k.0.below
      (constant c [] k.0 (2 ^ W) (omega arith) (rw e at k.2) tt) c.made k.0.said

-- routes in order follow each other
follows : (W x : ℕ) (rs : List Route) → ((r : Route) → r ∈ rs → Valid W r) → Placed W rs → AllInOrder rs →
    ((r : Route) → r ∈ rs → x ≤ r.address) → Follow W x rs
follows W x [] valid placed o from = tt
follows W x (r ∷ rs) valid placed o from =
    let first = Memᴰ.head refl in
    let above : (s : Route) → s ∈ rs → r.address ≤ s.address = λ s m. (no-later r.address r.length s.address s.length (o.0 s m)).0 in
    let rest = follows W r.address rs (λ s m. valid s (Memᴰ.tail m)) (λ s m. placed s (Memᴰ.tail m)) o.1 above in
    (valid r first, from r first, placed r first, rest)

pub sweep_makes : (W : ℕ) (rs : List Route) → ((r : Route) → r ∈ rs → Valid W r) → Placed W rs → AllInOrder rs →
    swept_ranges W rs ≡ ranges_of W rs
sweep_makes W rs valid placed o =
    ranges_once W rs valid placed (swept_ranges W rs)
    (ends W (answer W rs) (swept W (sweep [] 0 []) rs)
    (sweeps W (answer W rs) (sweep [] 0 []) rs (follows W 0 rs valid placed o (λ r m. omega arith)) (record {
      said = refl;
      below = pow_pos W;
      begun = λ r m. absurd (Memᴰ.not-nil m);
      still = λ q l b. sym (last_longest W rs q valid o);
    })))
