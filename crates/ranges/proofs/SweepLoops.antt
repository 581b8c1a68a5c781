-- The sweep's loops: what is still open, and the keys that are left, give what the whole gives.
use Rattle.std.proofs.Common.{◌≡◌, ℕ, ◌+◌, ◌-◌, ◌<◌, ◌≤◌, true, List, [], ◌∷◌, length, drop, set, ap, ◌∙◌, arith}
use Rattle.route.specs.Rule.{Route}
use Rattle.route.specs.Loops.{before}
use Rattle.ranges.specs.Ranges.{Range, past_end}
use Rattle.ranges.specs.Keys.{route_in, routes_in, key_at}
use Rattle.ranges.specs.declared.words.Key.{Key}
use Rattle.ranges.specs.Sweeps.{Sweep, sweep, advanced, ends_by, closed, closed_by, opening, swept}
use Rattle.ranges.specs.Sweeping.{sweep_of, HasRoom, SameKeys}
use Rattle.ranges.specs.declared.sweep.Sweep.{Sweep as CodeSweep}
use Rattle.ranges.proofs.Steps.{before_last, before-set}

module _ (W x : ℕ) (at : ℕ → Route) (n a : ℕ) (t : List Range) (pos : 0 < n) where
  turn : (s : Sweep) → ends_by W x (at (n - 1)) ≡ true → s ≡ advanced (past_end W (at (n - 1))) (sweep (before at n) a t) →
      closed W x (before at (n - 1)) s.reached s.made ≡ closed W x (before at n) a t
  turn s e is = rw (before_last at n pos, e) (ap (λ u. closed W x (before at (n - 1)) u.reached u.made) (rw (before_last at n pos) at is))

-- of the prefixes open at first, those that are left
pub record ClosingAt (x : ℕ) (s₀ s : CodeSweep) : Type 0 where
  pub same : SameKeys s₀ s
  pub fewer : s.at.opened ≤ s₀.at.opened
  pub load : s.at.made + s.at.opened ≤ s₀.at.made + s₀.at.opened
  pub room : HasRoom s₀
  pub left : closed_by 32 x (sweep_of s) ≡ closed_by 32 x (sweep_of s₀)

-- the keys before the next one are opened: those that are left give what all of them give
pub record SweptTo (keys₀ : List Key) (s : CodeSweep) : Type 0 where
  pub room : HasRoom s
  pub left : swept 32 (sweep_of s) (routes_in (drop s.read s.keys.now)) ≡ swept 32 (sweep [] 0 []) (routes_in keys₀)

-- the sweep u is gone on to the end of the prefix opened last, and t has closed it
module _ {x : ℕ} {s₀ s u t : CodeSweep} (h : ClosingAt x s₀ s) (on : SameKeys s u) (off : SameKeys u t) where
  module _ (opened : (u.at.opened ≡ s.at.opened) × (u.at.made ≤ s.at.made + 1)) (closed : (t.at.opened ≡ u.at.opened - 1) × (t.at.reached ≡ u.at.reached) × (t.at.made ≡ u.at.made)) where
    pub closing-turn : 0 < s.at.opened → {r : Route} → r ≡ key_at s.keys.now (s.at.opened - 1) → ends_by 32 x r ≡ true →
        {y : ℕ} → y ≡ past_end 32 r → sweep_of u ≡ advanced y (sweep_of s) → t.ranges.now ≡ u.ranges.now → ClosingAt x s₀ t
    closing-turn pos is e past go ranges = record {
      same = record { keys = off.keys ∙ on.keys ∙ h.same.keys; read = off.read ∙ on.read ∙ h.same.read; ranges = off.ranges ∙ on.ranges ∙ h.same.ranges };
      fewer = omega (arith, h.fewer, opened, closed);
      load = omega (arith, h.load, opened, closed);
      room = h.room;
      left = rw (off.keys, on.keys, closed.0, closed.1, closed.2, ranges, opened.0)
          (turn 32 x (key_at s.keys.now) s.at.opened s.at.reached (sweep_of s).made pos (sweep_of u) (rw is at e) (rw (past, is) at go))
          ∙ h.left;
    }

-- a key stored behind those that are open, where the sweep has closed prefixes and gone on to its address
pub opening-key : (u : CodeSweep) (s : Sweep) (key : Key) → u.at.opened < length u.keys.now →
    sweep_of u ≡ advanced (route_in key).address (closed_by 32 (route_in key).address s) →
    sweep (before (key_at (set u.keys.now u.at.opened key)) (u.at.opened + 1)) u.at.reached (sweep_of u).made ≡ opening 32 s (route_in key)
opening-key u s key l is =
    rw (before-set u.keys.now u.at.opened key l) (ap (λ c. sweep (route_in key ∷ c.opened) c.reached c.made) is)
