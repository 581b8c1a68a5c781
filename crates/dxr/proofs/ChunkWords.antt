-- A chunk's range words and main word: they fit 32 bits, and a lookup reads back from them the entries that they encode.
use Prim.Native.Nat.{ℕ, suc, ◌+◌, ◌*◌, ◌/◌, ◌%◌, ◌^◌, ◌≤◌, ◌<◌}
use mathlib.Core.Path.{◌≡◌, refl, sym, ap, ap₂}
use mathlib.Core.Bool.{Bool, true, false, cond, true≢false}
use mathlib.Core.Logic.{⊎_elim}
use mathlib.Core.List.Memᴰ
use mathlib.Core.List.{List, [], ◌∷◌, ◌++◌}
use lib.Dec.{eqb, ltb, leb}
use lib.ListN.{length, take, drop, length-append}
use lib.Seq.{take_at, drop_at}
use native.Mathlib.Omega.{arith}
use borrow.Author.Tests.{le-leb, eq-eqb}
use Rattle.route.specs.Limits.{max_hop}
use Rattle.route.specs.RightHop.{◌∈◌}
use Rattle.route.proofs.Members.{each_of}
use Rattle.route.proofs.Tests.{orders, and_parts, all_three}
use Rattle.ranges.specs.Ranges.{Range, range, hop_at}
use Rattle.dxr.specs.Dxr.{all_short, long_words, short_entry, short_words, encoded, words, main_word, kind_in, count_in, position_in}
use Rattle.dxr.specs.Dxr.{long_entries, short_range, short_entries, decoded, starts_rise, entries_fine, part_length, entries_of}
use Rattle.dxr.specs.Dxr.{points_inside, chunk_fine, chunk_hop}
use Rattle.dxr.specs.Loops.{Fits}
use Rattle.dxr.proofs.Rising.{SmallHops}

fits_after : (size s : ℕ) (es : List Range) → size ≤ 65536 → starts_rise size s es ≡ true → SmallHops es → Fits es
fits_after size s [] le rise small = tt
fits_after size s (r ∷ rs) le rise small =
    let h = all_three (ltb s r.start) (ltb r.start size) _ rise in
    (omega orders, small.0, fits_after size r.start rs le h.2 small.1)

pub fits : (size : ℕ) (es : List Range) → size ≤ 65536 → entries_fine size es ≡ true → SmallHops es → Fits es
fits size [] le ok small = tt
fits size (r ∷ rs) le ok small =
    let h = and_parts (eqb r.start 0) _ ok in
    (omega orders, small.0, fits_after size 0 rs le h.1 small.1)

-- numbers that fit 32 bits
abbrev pub Words : List ℕ → Type 0
Words ws = (w : ℕ) → w ∈ ws → w < 2 ^ 32

pub words-nil : Words []
words-nil = λ w m. absurd (Memᴰ.not-nil m)

pub words-cons : (w : ℕ) (ws : List ℕ) → w < 2 ^ 32 → Words ws → Words (w ∷ ws)
words-cons w ws = each_of {P = λ w. w < 2 ^ 32} w ws

pub words_append : (vs ws : List ℕ) → Words vs → Words ws → Words (vs ++ ws)
words_append vs ws f g w m = ⊎_elim (f w) (g w) (Memᴰ.append_cases vs m)

-- long words
long_back : (es : List Range) → Fits es → take (length es) (long_entries (long_words es)) ≡ es
long_back [] f = refl
long_back (r ∷ rs) f = ap₂ ◌∷◌ (ap₂ range (omega arith) (omega arith)) (long_back rs f.2)

long_length : (es : List Range) → length (long_words es) ≡ length es
long_length [] = refl
long_length (r ∷ rs) = ap suc (long_length rs)

long_fit : (es : List Range) → Fits es → Words (long_words es)
long_fit [] f = words-nil
long_fit (r ∷ rs) f = words-cons _ (long_words rs) (omega arith) (long_fit rs f.2)

-- short words
record Short (r : Range) : Type 0 where
  even : r.start % 256 ≡ 0
  low : r.hop ≤ 255

short : (r : Range) (rs : List Range) → all_short (r ∷ rs) ≡ true → Short r × (all_short rs ≡ true)
short r rs e =
    let h = all_three (eqb (r.start % 256) 0) (leb r.hop 255) _ e in
    (record { even = omega orders; low = omega orders }, h.2)

short_entry_back : (x : ℕ) (r : Range) → Short r → x ≡ short_entry r → short_range x ≡ r
short_entry_back x r s e = ap₂ range (omega arith) (omega arith)

short_back : (es : List Range) → Fits es → all_short es ≡ true → take (length es) (short_entries (short_words es)) ≡ es
short_back [] f e = refl
short_back (r ∷ []) f e = ap (λ x. x ∷ []) (short_entry_back _ r (short r [] e).0 (omega arith))
short_back (r ∷ s ∷ rs) f e =
    let h = short r (s ∷ rs) e in
    let k = short s rs h.1 in
    let low : short_entry s < 65536 = omega arith in
    ap₂ ◌∷◌ (short_entry_back _ r h.0 (omega arith)) (ap₂ ◌∷◌ (short_entry_back _ s k.0 (omega arith)) (short_back rs f.2.2 k.1))

short_length : (es : List Range) → length (short_words es) ≡ (length es + 1) / 2
short_length [] = refl
short_length (r ∷ []) = refl
short_length (r ∷ s ∷ rs) = omega (arith, short_length rs)

short_fit : (es : List Range) → Fits es → all_short es ≡ true → Words (short_words es)
short_fit [] f e = words-nil
short_fit (r ∷ []) f e = let h = short r [] e in words-cons _ [] (omega arith) words-nil
short_fit (r ∷ s ∷ rs) f e =
    let h = short r (s ∷ rs) e in
    let k = short s rs h.1 in
    words-cons _ (short_words rs) (omega arith) (short_fit rs f.2.2 k.1)

-- a form that the entries have room in: the short one only for short entries
abbrev pub Suits : Bool → List Range → Type 0
Suits form es = form ≡ true → all_short es ≡ true

-- both forms
pub encoded_back : (form : Bool) (es : List Range) → Suits form es → Fits es → decoded form (length es) (encoded form es) ≡ es
encoded_back true es s f = short_back es f (s refl)
encoded_back false es s f = long_back es f

pub encoded_length : (form : Bool) (es : List Range) → length (encoded form es) ≡ part_length form (length es)
encoded_length true es = short_length es
encoded_length false es = long_length es

pub encoded_fit : (form : Bool) (es : List Range) → Suits form es → Fits es → Words (encoded form es)
encoded_fit true es s f = short_fit es f (s refl)
encoded_fit false es s f = long_fit es f

pub words_fit : (es : List Range) → Fits es → Words (words es)
words_fit [] f = words-nil
words_fit (r ∷ []) f = words-nil
words_fit (r ∷ s ∷ rs) f = encoded_fit (all_short (r ∷ s ∷ rs)) (r ∷ s ∷ rs) (λ e. e) f

-- the kind of each form
abbrev kind_of : Bool → ℕ
kind_of form = cond form 2 1

not_direct : (form : Bool) → eqb (kind_of form) 0 ≡ false
not_direct true = refl
not_direct false = refl

not_three : (form : Bool) → ltb (kind_of form) 3 ≡ true
not_three true = refl
not_three false = refl

kind_short : (form : Bool) → eqb (kind_of form) 2 ≡ form
kind_short true = refl
kind_short false = refl

-- the three parts of a main word
module _ (k n p : ℕ) (few : n < 16384) (low : p < 65536) where
  kind_back : kind_in (k * 2 ^ 30 + n * 65536 + p) ≡ k
  kind_back = omega arith

  count_back : count_in (k * 2 ^ 30 + n * 65536 + p) ≡ n
  count_back = omega arith

  position_back : position_in (k * 2 ^ 30 + n * 65536 + p) ≡ p
  position_back = omega arith

  pointer_fits : k < 3 → k * 2 ^ 30 + n * 65536 + p < 2 ^ 32
  pointer_fits lt = omega arith

pub main_fits : (es : List Range) (p : ℕ) → Fits es → length es < 16384 → p < 65536 → main_word es p < 2 ^ 32
main_fits [] p f few low = omega arith
main_fits (r ∷ []) p f few low = omega arith
main_fits (r ∷ s ∷ rs) p f few low =
    let form = all_short (r ∷ s ∷ rs) in
    let kind = not_three form in
    pointer_fits (kind_of form) (length (r ∷ s ∷ rs)) p few low (omega orders)

-- a word that leads to the entries es: it is accepted, and answers as they do
pub record Leads (size w : ℕ) (ws : List ℕ) (es : List Range) : Type 0 where
  pub accepted : chunk_fine size w ws ≡ true
  pub answers : (key : ℕ) → chunk_hop w ws key ≡ hop_at 0 es key

-- a part of a row, read back at its place
module _ (front part rest : List ℕ) (n : ℕ) (count : length part ≡ n) where
  part_back : take n (drop (length front) (front ++ (part ++ rest))) ≡ part
  part_back = rw (drop_at front (part ++ rest) (length front) refl) (take_at part rest n count)

  part_lies : leb (length front + n) (length (front ++ (part ++ rest))) ≡ true
  part_lies = le-leb (length front + n) _ (simp length-append (omega arith))

-- where the parts of a word are a form, a count and a position of entries
module _ (size w : ℕ) (form : Bool) (es : List Range) (front rest : List ℕ) (kind : kind_in w ≡ kind_of form)
    (count : count_in w ≡ length es) (at : position_in w ≡ length front) where
  abbrev ws : List ℕ
  ws = front ++ (encoded form es ++ rest)

  in_place : 2 ≤ length es → points_inside w ws ≡ true
  in_place many =
      rw (kind, kind_short form, count, at, le-leb 2 (length es) many)
      (part_lies front (encoded form es) rest (part_length form (length es)) (encoded_length form es))

  read_back : Suits form es → Fits es → entries_of w ws ≡ es
  read_back s f =
      rw (kind, kind_short form, count, at, part_back front (encoded form es) rest (part_length form (length es)) (encoded_length form es))
      (encoded_back form es s f)

  pointer_leads : Suits form es → Fits es → entries_fine size es ≡ true → 2 ≤ length es → Leads size w ws es
  pointer_leads s f ok many = record {
    accepted = rw (in_place many, read_back s f, ok, kind, not_direct form, not_three form);
    answers = λ key. rw (read_back s f, kind, not_direct form);
  }

-- the main word of a chunk leads to its entries
pub word_leads : (size : ℕ) (es : List Range) (front rest : List ℕ) → Fits es → entries_fine size es ≡ true →
    length es < 16384 → length front < 65536 → Leads size (main_word es (length front)) (front ++ (words es ++ rest)) es
word_leads size [] front rest f ok few low = absurd (true≢false (sym ok))
word_leads size (r ∷ []) front rest f ok few low =
    let first = (and_parts (eqb r.start 0) _ ok).0 in
    let direct = eq-eqb (r.hop / 2 ^ 30) 0 (omega arith) in
    record {
      accepted = rw direct (le-leb r.hop max_hop f.1);
      answers = λ key. rw (direct, le-leb r.start key (omega orders));
    }
word_leads size (r ∷ s ∷ rs) front rest f ok few low =
    let es = r ∷ s ∷ rs in
    let n = length es in
    let p = length front in
    let form = all_short es in
    let k = kind_of form in
    pointer_leads size _ form es front rest (kind_back k n p few low) (count_back k n p few low) (position_back k n p few low)
    (λ e. e) f ok (omega arith)
