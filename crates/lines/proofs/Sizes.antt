-- How long each text is, by its numbers; and no line is longer than `max_line`, since a number has at most 20 digits.
use Prim.Native.Nat.{ℕ, ◌+◌, ◌/◌, ◌%◌, ◌^◌, ◌≤◌}
use mathlib.Core.Path.{◌≡◌}
use mathlib.Core.List.{List}
use native.Mathlib.Omega.{arith}
use lib.ListN.{length, length-append}
use Rattle.route.specs.Rule.{Route}
use Rattle.lines.specs.Texts.{decimal, dotted_quad, prefix_text, route_text}
use Rattle.lines.specs.Lines.{header_line, update_line, refused_line, slot_line, max_line}
use Rattle.lines.proofs.Digits.{decimal-size}

abbrev size : ℕ → ℕ
size n = length (decimal n)

pub quad-size : (a : ℕ) →
    length (dotted_quad a) ≡ size (a / 2 ^ 24) + size (a / 2 ^ 16 % 256) + size (a / 2 ^ 8 % 256) + size (a % 256) + 3
quad-size a = simp length-append (omega arith)

pub prefix-size : (a n : ℕ) → length (prefix_text a n) ≡ length (dotted_quad a) + size n + 1
prefix-size a n = simp length-append (omega arith)

pub route-size : (r : Route) → length (route_text r) ≡ length (prefix_text r.address r.length) + size r.hop + 1
route-size r = simp length-append (omega arith)

pub header-size : (slots : ℕ) → length (header_line slots) ≡ 8 + size slots
header-size slots = simp length-append (omega arith)

pub update-size : (nth : ℕ) (word : List ℕ) (r : Route) (writes used : ℕ) →
    length (update_line nth word r writes used) ≡ size nth + length word + length (route_text r) + size writes + size used + 3
update-size nth word r writes used = simp length-append (omega arith)

pub refused-size : (nth refusal : ℕ) → length (refused_line nth refusal) ≡ size nth + size refusal + 10
refused-size nth refusal = simp length-append (omega arith)

pub slot-size : (slot : ℕ) (r : Route) → length (slot_line slot r) ≡ size slot + length (route_text r) + 7
slot-size slot r = simp length-append (omega arith)

-- no line is longer than `max_line`
abbrev Fits : List ℕ → Type 0
Fits text = length text ≤ max_line

route-most : (r : Route) → length (route_text r) ≤ 125
route-most r =
    let a = r.address in
    omega (
      arith,
      route-size r,
      prefix-size a r.length,
      quad-size a,
      decimal-size (a / 2 ^ 24),
      decimal-size (a / 2 ^ 16 % 256),
      decimal-size (a / 2 ^ 8 % 256),
      decimal-size (a % 256),
      decimal-size r.length,
      decimal-size r.hop,
    )

pub header-fits : (slots : ℕ) → Fits (header_line slots)
header-fits slots = omega (arith, header-size slots, decimal-size slots)

pub update-fits : (nth : ℕ) (word : List ℕ) (r : Route) (writes used : ℕ) → length word ≤ 8 → Fits (update_line nth word r writes used)
update-fits nth word r writes used l =
    omega (arith, update-size nth word r writes used, route-most r, decimal-size nth, decimal-size writes, decimal-size used)

pub refused-fits : (nth refusal : ℕ) → Fits (refused_line nth refusal)
refused-fits nth refusal = omega (arith, refused-size nth refusal, decimal-size nth, decimal-size refusal)

pub slot-fits : (slot : ℕ) (r : Route) → Fits (slot_line slot r)
slot-fits slot r = omega (arith, slot-size slot r, route-most r, decimal-size slot)
