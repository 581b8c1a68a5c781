-- Ranges that say a function: from lo, where the hop is h, up to top, it has one hop up to each start and another from there on.
--
-- There is one such row of ranges for a function. So a table built in any way is the merged ranges of a set as soon as it says their answer.
use Rattle.std.proofs.Common.{◌≡◌, ℕ, ◌+◌, ◌<◌, ◌≤◌, not, eqb, leb, List, [], ◌∷◌, sym, refl, ◌∙◌, ap₂, le_antisymm, arith, le-ltb, eq-eqb, ne_eqb, eqb-true, le-leb, leb-false}
use mathlib.Core.List.Memᴰ
use borrow.Author.Tests.{eqb-false, lt-leb, not-false}
use Rattle.route.specs.Limits.{max_hop}
use Rattle.route.specs.Refusals.{fine, fault_if, image_refusal}
use Rattle.route.specs.RightHop.{◌∈◌}
use Rattle.route.proofs.Members.{each_of}
use Rattle.route.proofs.Tests.{orders, by_test, or_parts, in_turn, passed}
use Rattle.ranges.specs.Ranges.{Range, range, breaks, first_breaks, ranges_fault, table_fault, hop_at}

abbrev pub Says : (ℕ → ℕ) → ℕ → ℕ → ℕ → List Range → Type 0
Says f top lo h [] = (lo < top) × ((q : ℕ) → lo ≤ q → q < top → f q ≡ h)
Says f top lo h (r ∷ rs) =
    (lo < r.start) × ((q : ℕ) → lo ≤ q → q < r.start → f q ≡ h) × (r.hop ≡ h → ⊥) × Says f top r.start r.hop rs

module _ (f : ℕ → ℕ) (top : ℕ) where
  pub says_first : (lo h : ℕ) (rs : List Range) → Says f top lo h rs → f lo ≡ h
  says_first lo h [] s = s.1 lo (omega arith) s.0
  says_first lo h (r ∷ rs) s = s.1 lo (omega arith) s.0

  pub says-below : (lo h : ℕ) (rs : List Range) → Says f top lo h rs → lo < top
  says-below lo h [] s = s.0
  says-below lo h (r ∷ rs) s = let l = says-below r.start r.hop rs s.3 in omega (arith, s.0)

  -- a lookup in them finds the function's value
  pub says-hop : (lo h : ℕ) (rs : List Range) → Says f top lo h rs → (q : ℕ) → lo ≤ q → q < top → hop_at h rs q ≡ f q
  says-hop lo h [] s q l b = sym (s.1 q l b)
  says-hop lo h (r ∷ rs) s q l b = by_test (leb r.start q)
      (λ t. rw t (says-hop r.start r.hop rs s.3 q (omega orders) b))
      (λ t. rw t (sym (s.1 q l (omega orders))))

  -- they keep the rules
  pub says-fine : ((x : ℕ) → f x ≤ max_hop) → (i : ℕ) (p : Range) (rs : List Range) → Says f top p.start p.hop rs →
      ranges_fault i p rs ≡ fine
  says-fine small i p [] s = refl
  says-fine small i p (r ∷ rs) s =
      let e = says_first r.start r.hop rs s.3 in
      let b : r.hop ≤ max_hop = rw e at (small r.start) in
      rw (lt-leb r.start p.start s.0, ne_eqb r.hop p.hop s.2, le-ltb max_hop r.hop b) (says-fine small (i + 1) r rs s.3)

  -- each range starts below top, with the function's value there
  pub says-each : (lo h : ℕ) (rs : List Range) → Says f top lo h rs → (r : Range) → r ∈ rs → (r.start < top) × (f r.start ≡ r.hop)
  says-each lo h [] s = λ r m. absurd (Memᴰ.not-nil m)
  says-each lo h (r ∷ rs) s =
      each_of {P = λ (r : Range). (r.start < top) × (f r.start ≡ r.hop)} r rs
      (says-below r.start r.hop rs s.3, says_first r.start r.hop rs s.3) (says-each r.start r.hop rs s.3)

  -- a start of one row is no number at which the other row still has the hop before it
  changes : (lo h : ℕ) (r : Range) (rs : List Range) → Says f top lo h (r ∷ rs) → f r.start ≡ h → ⊥
  changes lo h r rs s e = s.2 (sym (says_first r.start r.hop rs s.3) ∙ e)

  -- no other ranges say it
  pub says-once : (lo h : ℕ) (rs ss : List Range) → Says f top lo h rs → Says f top lo h ss → rs ≡ ss
  says-once lo h [] [] a b = refl
  says-once lo h [] (s ∷ ss) a b =
      absurd (changes lo h s ss b (a.1 s.start (omega (arith, b.0)) (says-below s.start s.hop ss b.3)))
  says-once lo h (r ∷ rs) [] a b =
      absurd (changes lo h r rs a (b.1 r.start (omega (arith, a.0)) (says-below r.start r.hop rs a.3)))
  says-once lo h (r ∷ rs) (s ∷ ss) a b =
      let start : r.start ≡ s.start = le_antisymm
      (not_before r.start (λ l. changes lo h s ss b (a.1 s.start (omega (arith, b.0)) l)))
      (not_before s.start (λ l. changes lo h r rs a (b.1 r.start (omega (arith, a.0)) l))) in
      let hop : r.hop ≡ s.hop =
      sym (says_first r.start r.hop rs a.3) ∙ (rw start (says_first s.start s.hop ss b.3)) in
      let same : r ≡ s = ap₂ range start hop in
      let rest = says-once s.start s.hop rs ss (rw (start, hop) at a.3) b.3 in
      ap₂ (λ x xs. x ∷ xs) same rest
    where
      not_before : {x : ℕ} (y : ℕ) → (x < y → ⊥) → y ≤ x
      not_before {x} y n = by_test (leb y x) (λ t. omega orders) (λ t. absurd (n (omega orders)))

  -- from an earlier number on, with the same hop
  pub says-earlier : (lo x h : ℕ) (rs : List Range) → lo < x → ((q : ℕ) → lo ≤ q → q < x → f q ≡ h) → Says f top x h rs → Says f top lo h rs
  says-earlier lo x h rs l same s = of_row rs s
    where
      both : (b : ℕ) → ((q : ℕ) → x ≤ q → q < b → f q ≡ h) → (q : ℕ) → lo ≤ q → q < b → f q ≡ h
      both b k q m n = by_test (leb x q) (λ t. k q (omega orders) n) (λ t. same q m (omega orders))

      of_row : (rs : List Range) → Says f top x h rs → Says f top lo h rs
      of_row [] s = (omega (arith, s.0), both top s.1)
      of_row (r ∷ rs) s = (omega (arith, s.0), both r.start s.1, s.2, s.3)

-- ranges that keep the rules and in which a lookup finds the function's value say it
module _ (f : ℕ → ℕ) (top : ℕ) where
  says-looked-up : (i : ℕ) (p : Range) (rs : List Range) → ranges_fault i p rs ≡ fine → p.start < top →
      ((r : Range) → r ∈ rs → r.start < top) → ((q : ℕ) → p.start ≤ q → q < top → hop_at p.hop rs q ≡ f q) →
      Says f top p.start p.hop rs
  says-looked-up i p [] ok l below finds = (l, λ q a b. sym (finds q a b))
  says-looked-up i p (r ∷ rs) ok l below finds =
      let t = in_turn (fault_if (breaks p r) image_refusal i) _ ok in
      let b = or_parts _ _ (passed (breaks p r) _ _ t.0) in
      let c = or_parts (leb r.start p.start) _ b.0 in
      let up = leb-false r.start p.start c.0 in
      let high = below r (Memᴰ.head refl) in (
        up,
        (λ q a u. sym (rw (lt-leb r.start q u) at (finds q a (omega arith)))),
        eqb-false r.hop p.hop c.1,
        says-looked-up (i + 1) r rs t.1 high (λ s m. below s (Memᴰ.tail m))
            (λ q a u. rw (le-leb r.start q a) at (finds q (omega arith) u)),
      )

-- two functions with the same values
module _ (f g : ℕ → ℕ) (top : ℕ) (same : (q : ℕ) → f q ≡ g q) where
  says_same : (lo h : ℕ) (rs : List Range) → Says f top lo h rs → Says g top lo h rs
  says_same lo h [] s = (s.0, λ q l b. sym (same q) ∙ s.1 q l b)
  says_same lo h (r ∷ rs) s = (s.0, λ q l b. sym (same q) ∙ s.1 q l b, s.2, says_same r.start r.hop rs s.3)

-- a table that says f up to top: it starts at 0, and has no range only where top is 0
abbrev pub Table : (ℕ → ℕ) → ℕ → List Range → Type 0
Table f top [] = top ≡ 0
Table f top (r ∷ rs) = (r.start ≡ 0) × Says f top 0 r.hop rs

pub table_same : (f g : ℕ → ℕ) (top : ℕ) → ((q : ℕ) → f q ≡ g q) → (t : List Range) → Table f top t → Table g top t
table_same f g top same [] s = s
table_same f g top same (r ∷ rs) s = (s.0, says_same f g top same 0 r.hop rs s.1)

module _ (f : ℕ → ℕ) (top : ℕ) where
  pub table-hop : (t : List Range) → Table f top t → (q : ℕ) → q < top → hop_at 0 t q ≡ f q
  table-hop [] s q b = absurd (omega arith)
  table-hop (r ∷ rs) s q b = rw (s.0, le-leb 0 q (omega arith)) (says-hop f top 0 r.hop rs s.1 q (omega arith) b)

  pub table-each : 0 < top → (t : List Range) → Table f top t → (r : Range) → r ∈ t → (r.start < top) × (f r.start ≡ r.hop)
  table-each pos [] s = absurd (omega arith)
  table-each pos (r ∷ rs) s =
      each_of {P = λ (r : Range). (r.start < top) × (f r.start ≡ r.hop)} r rs
      (rw s.0 (pos, says_first f top 0 r.hop rs s.1)) (says-each f top 0 r.hop rs s.1)

  pub table-looked-up : 0 < top → (t : List Range) → table_fault t ≡ fine → ((r : Range) → r ∈ t → r.start < top) →
      ((q : ℕ) → q < top → hop_at 0 t q ≡ f q) → Table f top t
  table-looked-up pos [] ok below finds = cc
  table-looked-up pos (r ∷ rs) ok below finds =
      let t = in_turn (fault_if (first_breaks r) image_refusal 0) _ ok in
      let z = eqb-true r.start 0 (not-false _ (or_parts (not (eqb r.start 0)) _ (passed (first_breaks r) _ _ t.0)).0) in
      let says = says-looked-up f top 1 r rs t.1 (omega arith) (λ s m. below s (Memᴰ.tail m))
      (λ q a u. rw (le-leb r.start q a) at (finds q u)) in
      (z, rw z at says)

  pub table-fine : 0 < top → ((x : ℕ) → f x ≤ max_hop) → (t : List Range) → Table f top t → table_fault t ≡ fine
  table-fine pos small [] s = absurd (omega arith)
  table-fine pos small (r ∷ rs) s =
      let e = says_first f top 0 r.hop rs s.1 in
      let b : r.hop ≤ max_hop = rw e at (small 0) in
      rw (eq-eqb r.start 0 s.0, le-ltb max_hop r.hop b) (says-fine f top small 1 r rs (rw (← s.0) at s.1))

  pub table-once : 0 < top → (t u : List Range) → Table f top t → Table f top u → t ≡ u
  table-once pos [] u a b = absurd (omega arith)
  table-once pos (r ∷ rs) [] a b = absurd (omega arith)
  table-once pos (r ∷ rs) (s ∷ ss) a b =
      let hop : r.hop ≡ s.hop = sym (says_first f top 0 r.hop rs a.1) ∙ says_first f top 0 s.hop ss b.1 in
      ap₂ (λ x xs. x ∷ xs) (ap₂ range (a.0 ∙ sym b.0) hop) (says-once f top 0 s.hop rs ss (rw hop at a.1) b.1)
