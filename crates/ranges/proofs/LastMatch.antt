-- In order of address, of length where addresses are equal, the longest match is the last match.
use Rattle.std.proofs.Common.{◌≡◌, ℕ, ◌*◌, ◌/◌, ◌≤◌, true, false, cond, leb, List, [], ◌∷◌, refl, ◌∙◌, mul-le-mul_right, le_antisymm, div-add-mod', le-div_iff_mul-le, arith, le-ltb, eqb-true}
use mathlib.Core.List.Memᴰ
use Rattle.route.specs.Rule.{Route, span, matches, Match, nothing, best, improved, longest, hop_of, answer}
use Rattle.route.specs.PrefixOrder.{comes_before}
use Rattle.route.specs.RightHop.{◌∈◌, Matches}
use Rattle.route.specs.RowsOfSet.{Valid}
use Rattle.route.proofs.Tests.{orders, by_test}
use Rattle.route.proofs.PrefixOrder.{no-later}
use Rattle.route.proofs.Spans.{span_pos, matches-span, aligned-longer}
use Rattle.route.proofs.LongestMatch.{Found, finds}

-- s does not come before r
abbrev pub InOrder : Route → Route → Type 0
InOrder r s = comes_before s.address s.length r.address r.length ≡ false

abbrev pub AllInOrder : List Route → Type 0
AllInOrder [] = Unit {0}
AllInOrder (r ∷ rs) = ((s : Route) → s ∈ rs → InOrder r s) × AllInOrder rs

-- the hop of the last of the routes that matches q, h where none does
abbrev pub last_hop : ℕ → ℕ → List Route → ℕ → ℕ
last_hop W h [] q = h
last_hop W h (r ∷ rs) q = last_hop W (cond (matches W r.address r.length q) r.hop h) rs q

module _ (W q : ℕ) (r s : Route) (v : Valid W r) (w : Valid W s) (c : Matches W r q) (d : Matches W s q) where
  -- of two prefixes that match, the shorter one starts no later
  shorter_first : s.length ≤ r.length → s.address ≤ r.address
  shorter_first l =
      let n = span W r.length in
      let a = div-add-mod' r.address n in
      let b = div-add-mod' s.address n in
      let e = aligned-longer W s.address s.length r.length l v.short w.aligned in
      let h = eqb-true (q / n) (r.address / n) c in
      let k = ((matches-span W s.address s.length q w.aligned).0 d).0 in
      let j : s.address / n * n ≤ q = omega arith in
      let m : s.address / n ≤ r.address / n = rw h at ((le-div_iff_mul-le (span_pos W r.length)).1 j) in
      omega (arith, mul-le-mul_right n m, v.aligned)

  pub longer_later : InOrder r s → r.length ≤ s.length
  longer_later o =
      let l = no-later r.address r.length s.address s.length o in
      by_test (leb r.length s.length)
      (λ t. omega orders)
      (λ t. absurd (omega (orders, l.1 (le_antisymm l.0 (shorter_first (omega orders))))))

-- the hop of a match, h where there is none
abbrev hop_or : ℕ → Match → ℕ
hop_or h nothing = h
hop_or h (best r) = r.hop

last_or : (W h : ℕ) (rs : List Route) (q : ℕ) → ((r : Route) → r ∈ rs → Valid W r) → AllInOrder rs →
    last_hop W h rs q ≡ hop_or h (longest W rs q)
last_or W h [] q ok o = refl
last_or W h (r ∷ rs) q ok o = by_test (matches W r.address r.length q)
    (λ e. rw e (last_or W r.hop rs q later o.1 ∙ stays e (longest W rs q) (finds W rs q)))
    (λ e. rw e (last_or W h rs q later o.1))
  where
    later : (s : Route) → s ∈ rs → Valid W s
    later s m = ok s (Memᴰ.tail m)

    -- a match behind r is no shorter than r, so r does not replace it
    stays : Matches W r q → (m : Match) → Found W rs q m → hop_or r.hop m ≡ hop_or h (improved true r m)
    stays e nothing f = refl
    stays e (best s) f =
        let l = longer_later W q r s (ok r (Memᴰ.head refl)) (later s f.member) e f.matching (o.0 s f.member) in
        rw (le-ltb s.length r.length l)

pub last_longest : (W : ℕ) (rs : List Route) (q : ℕ) → ((r : Route) → r ∈ rs → Valid W r) → AllInOrder rs →
    last_hop W 0 rs q ≡ answer W rs q
last_longest W rs q ok o = last_or W 0 rs q ok o ∙ of_match (longest W rs q)
  where
    of_match : (m : Match) → hop_or 0 m ≡ hop_of m
    of_match nothing = refl
    of_match (best r) = refl
