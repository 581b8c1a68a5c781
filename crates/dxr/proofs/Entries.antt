-- The entries that a chunk's ranges make, and their words, by place; whether all are short; what is stored of them.
use Prim.Native.Nat.{ℕ, zero, suc, ◌+◌, ◌-◌, ◌*◌, ◌%◌, ◌≤◌, ◌<◌}
use mathlib.Core.Path.{◌≡◌, refl, sym, ◌∙◌, ap}
use mathlib.Core.Bool.{true, ◌&&◌}
use mathlib.Core.List.{List, [], ◌∷◌}
use native.Mathlib.Omega.{arith}
use borrow.Rule.Slice.PartMut.{put_mid}
use native.Mathlib.Numerals.{add-one}
use lib.ListN.{length, get_or, take, drop, length-drop, length-map, get_or-map, get_or-eq_default}
use lib.Dec.{eqb, leb}
use lib.Seq.{drop-cons, length-take-le, sets}
use Rattle.std.specs.Prelude.{Option}
use Rattle.route.specs.Limits.{max_hop}
use Rattle.route.specs.declared.Hop.{Hop}
use Rattle.route.proofs.Tests.{orders, and_parts, all_three}
use Rattle.ranges.specs.Ranges.{Range, range, ranges}
use Rattle.ranges.specs.Loops.{range_at}
use Rattle.ranges.proofs.Rows.{ranges-length, ranges-get}
use Rattle.dxr.specs.Dxr.{fits_short, all_short, long_entry, long_words, short_entry, short_words, encoded, words, pointer, main_word}
use Rattle.dxr.specs.Dxr.{part_length}
use Rattle.dxr.specs.Loops.{entry_from, entries_from, Fits, Encodable, HasRoom}
use Rattle.dxr.specs.Shown.{is_short_form, word_of, words_of, IsMain, IsStored}
use Rattle.dxr.specs.declared.main_word.MainWord.{MainWord}
use Rattle.dxr.specs.declared.main_word.MainWord.TheVariants.{Direct, Pointer}
use Rattle.dxr.specs.declared.main_word.Part.{Part}
use Rattle.dxr.specs.declared.chunk.Stored.{Stored}
use Rattle.dxr.proofs.ChunkWords.{encoded_length}
use Rattle.dxr.proofs.Fills.{put-sets}

module _ (b : ℕ) (ss hs : List ℕ) (e : length ss ≡ length hs) where
  pub entries-length : length (entries_from b ss hs) ≡ length ss
  entries-length = length-map (ranges ss hs) (entry_from b) ∙ ranges-length ss hs e

  -- behind the last entry is none
  pub entries-get : (i : ℕ) → get_or (entries_from b ss hs) i (range 0 0) ≡ entry_from b (range_at ss hs i)
  entries-get i =
      let z : 0 - b ≡ 0 = omega arith in
      (rw z at (get_or-map (entry_from b) (ranges ss hs) i (range 0 0))) ∙ ap (entry_from b) (ranges-get ss hs i e)

-- what holds of all entries holds of each
pub fits-at : (es : List Range) (i : ℕ) → Fits es → ((get_or es i (range 0 0)).start < 65536) × ((get_or es i (range 0 0)).hop ≤ max_hop)
fits-at [] i f = (omega arith, omega arith)
fits-at (r ∷ rs) zero f = (f.0, f.1)
fits-at (r ∷ rs) (suc i) f = fits-at rs i f.2

pub short-at : (es : List Range) (i : ℕ) → all_short es ≡ true → (get_or es i (range 0 0)).hop ≤ 255
short-at [] i e = omega arith
short-at (r ∷ rs) zero e = let h = all_three (eqb (r.start % 256) 0) (leb r.hop 255) _ e in omega orders
short-at (r ∷ rs) (suc i) e = short-at rs i (and_parts (fits_short r) _ e).1

-- the bits of an entry behind the last are 0
pub entry-none : (es : List Range) (i : ℕ) → length es ≤ i → 0 ≡ short_entry (get_or es i (range 0 0))
entry-none es i l = rw (get_or-eq_default es (range 0 0) {n = i} l)

-- the words of entries
pub long-get : (es : List Range) (k : ℕ) → get_or (long_words es) k 0 ≡ long_entry (get_or es k (range 0 0))
long-get [] k = refl
long-get (r ∷ rs) zero = refl
long-get (r ∷ rs) (suc k) = long-get rs k

two_on : (k : ℕ) → 2 * suc k ≡ suc (suc (2 * k))
two_on k = omega arith

one_more : (k : ℕ) → suc (suc (2 * k)) + 1 ≡ suc (suc (2 * k + 1))
one_more k = omega arith

pub short-get : (es : List Range) (k : ℕ) →
    get_or (short_words es) k 0 ≡ short_entry (get_or es (2 * k) (range 0 0)) * 65536 + short_entry (get_or es (2 * k + 1) (range 0 0))
short-get [] k = refl
short-get (r ∷ []) zero = omega arith
short-get (r ∷ []) (suc k) = rw (two_on k, one_more k)
short-get (r ∷ s ∷ rs) zero = refl
short-get (r ∷ s ∷ rs) (suc k) = rw (two_on k, one_more k) (short-get rs k)

-- a chunk of one entry, and one of more
pub one-words : (es : List Range) → length es ≡ 1 → words es ≡ []
one-words [] l = refl
one-words (r ∷ []) l = refl
one-words (r ∷ s ∷ rs) l = absurd (omega arith)

pub one-main : (es : List Range) (p : ℕ) → length es ≡ 1 → main_word es p ≡ (get_or es 0 (range 0 0)).hop
one-main [] p l = refl
one-main (r ∷ []) p l = refl
one-main (r ∷ s ∷ rs) p l = absurd (omega arith)

pub many-words : (es : List Range) → 1 < length es → words es ≡ encoded (all_short es) es
many-words [] l = absurd (omega arith)
many-words (r ∷ []) l = absurd (omega arith)
many-words (r ∷ s ∷ rs) l = refl

pub many-main : (es : List Range) (p : ℕ) → 1 < length es → main_word es p ≡ pointer (all_short es) (length es) p
many-main [] p l = absurd (omega arith)
many-main (r ∷ []) p l = absurd (omega arith)
many-main (r ∷ s ∷ rs) p l = refl

-- the main word of some entries: its number, and how many words it points to
pub main-number : (es : List Range) (at : ℕ) (m : MainWord) → IsMain es at m → word_of m ≡ main_word es at
main-number es at (Direct h) i = i.1 ∙ sym (one-main es at i.0)
main-number es at (Pointer p) i = rw (i.1, i.2, i.3) (sym (many-main es at i.0))

pub main-many : (es : List Range) (at : ℕ) (m : MainWord) → IsMain es at m → words_of m ≡ length (words es)
main-many es at (Direct h) i = rw (one-words es i.0)
main-many es at (Pointer p) i = rw (i.1, i.2, many-words es i.0, encoded_length (all_short es) es)

-- entries of a chunk that are stored: nothing but a main word, or their words in a part of the row
module _ {es : List Range} {ws : List ℕ} {used : ℕ} (h : HasRoom es ws used) where
  -- a main word's number, and so many words more that are used, are what is stored
  module _ (m : MainWord) (i : IsMain es used m) {s : Stored} (word : s.word ≡ word_of m) (next : s.used ≡ used + words_of m) where
    stored-row : {ws' : List ℕ} → ws' ≡ sets ws used (words es) → IsStored es used ws s ws'
    stored-row row = record { main = word ∙ main-number es used m i; next = next ∙ ap (λ k. used + k) (main-many es used m i); row = row }

  pub stored-one : (hop : Option Hop) → IsMain es used (Direct hop) → {s : Stored} →
      s.word ≡ word_of (Direct hop) → s.used ≡ used + words_of (Direct hop) → IsStored es used ws s ws
  stored-one hop i word next = stored-row (Direct hop) i word next (rw (one-words es i.0))

  module _ (p : Part) (i : IsMain es used (Pointer p)) where
    some : words es ≡ encoded (is_short_form p.form) es
    some = rw i.1 (many-words es i.0)

    pub stored-form : Encodable (is_short_form p.form) es
    stored-form = record { fits = h.fits; few = h.few; suits = λ t. sym i.1 ∙ t }

    module _ {n : ℕ} (many : n ≡ part_length (is_short_form p.form) p.count) where
      size : length (encoded (is_short_form p.form) es) ≡ n
      size = encoded_length (is_short_form p.form) es ∙ ap (part_length (is_short_form p.form)) (sym i.2) ∙ sym many

      pub stored-end : used + n ≤ length ws
      stored-end = omega (arith, size, ap length some, h.room)

      part-many : used + n - used ≡ n
      part-many = omega arith

      -- their part of the row
      pub stored-size : length (take (used + n - used) (drop used ws)) ≡ part_length (is_short_form p.form) (length es)
      stored-size =
          length-take-le (used + n - used) (drop used ws) (simp length-drop (omega (arith, stored-end)))
          ∙ part-many
          ∙ many
          ∙ ap (part_length (is_short_form p.form)) i.2

      -- put back, they are the words written behind those that are used
      pub stored-many : {part : List ℕ} → part ≡ encoded (is_short_form p.form) es → {s : Stored} → s.word ≡ word_of (Pointer p) →
          s.used ≡ used + words_of (Pointer p) → IsStored es used ws s (put_mid used (used + n - used) ws part)
      stored-many put word next =
          stored-row (Pointer p) i word next (rw (put, some, part-many) (put-sets ws (encoded (is_short_form p.form) es) used n size stored-end))

-- where all entries before entry i are short, it and those behind it decide
pub short-turn : (es : List Range) (i : ℕ) → i < length es → all_short (drop i es) ≡ all_short es → {r : Range} → r ≡ get_or es i (range 0 0) →
    (fits_short r && all_short (drop (i + 1) es)) ≡ all_short es
short-turn es i l h is = rw (is, add-one) (rw (drop-cons es i (range 0 0) l) at h)
