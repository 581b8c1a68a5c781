-- A lookup that tests the list first: what is refused is the list's fault, and what is found is the answer.
use Prim.Native.Nat.{ℕ, ◌<◌}
use mathlib.Core.Path.{◌≡◌, ◌∙◌}
use mathlib.Core.List.{List}
use native.Mathlib.Omega.{arith}
use Rattle.std.specs.Prelude.{Some, Ok}
use borrow.Author.Tests.{ne_eqb}
use Rattle.route.specs.Rule.{Match, best, longest, hop_of}
use Rattle.route.specs.Refusals.{value, fine}
use Rattle.route.specs.Lists.{routes, rows_fault, list_lookup}
use Rattle.route.specs.Shown.{shown}
use Rattle.route.specs.declared.Hop.{Hop}
use Rattle.route.proofs.Accepted.{accepted_set}
use Rattle.route.proofs.LongestMatch.{found-hop}

-- a hop that is not 0 is shown as it is
pub via-shown : (h : Hop) → 0 < h.0 → shown (Ok (Some h)) ≡ value h.0
via-shown h l = rw (ne_eqb h.0 0 (λ e. omega arith))

module _ (W : ℕ) (ad ns hs : List ℕ) (q : ℕ) where
  module _ (ok : rows_fault W ad ns hs ≡ fine) where
    pub lookup-found : {m : Match} → m ≡ longest W (routes ad ns hs) q → value (hop_of m) ≡ list_lookup W ad ns hs q
    lookup-found e = rw (ok, ← e)

    pub lookup-via : (h : Hop) {a n : ℕ} → best (record { address = a; length = n; hop = h.0 }) ≡ longest W (routes ad ns hs) q → shown (Ok (Some h)) ≡ list_lookup W ad ns hs q
    lookup-via h e = via-shown h (found-hop W (routes ad ns hs) q (accepted_set W ad ns hs ok) _ e) ∙ lookup-found e
