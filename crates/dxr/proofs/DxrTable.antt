-- The DXR table of a range table that keeps the rules answers as the ranges do, and its words fit 32 bits.
--
-- The range words of a chunk stand behind those of the chunks before it, which is where its main word points; so a lookup comes to the
-- chunk's entries, and these answer as the ranges.
use Prim.Native.Nat.{ℕ, suc, zero, ◌-◌, ◌/◌, ◌%◌, ◌^◌, ◌≤◌, ◌<◌}
use mathlib.Core.Path.{◌≡◌, refl, sym, ◌∙◌, ap}
use mathlib.Core.List.{List, [], ◌++◌, append_assoc, append-nil}
use lib.Dec.{eqb}
use lib.ListN.{length, get_or, length-append, get_or-append}
use lib.Seq.{get_or_at}
use lib.Pow.{pow_pos, pow_mono, shr_lt}
use native.Mathlib.Nat.{div-add-mod', mod-lt, add-sub_of_le}
use native.Mathlib.Omega.{arith}
use borrow.Author.Tests.{eq-eqb, eqb-true}
use Rattle.route.specs.Refusals.{fine, value}
use Rattle.route.proofs.Tests.{orders, by_test}
use Rattle.ranges.specs.Ranges.{Range, table_fault, hop_at}
use Rattle.dxr.specs.Dxr.{chunk_size, chunk, words, main_word, all_words, main_words, table_words, table_main, dxr_lookup}
use Rattle.dxr.specs.Splits.{Split}
use Rattle.dxr.specs.Loops.{Fits}
use Rattle.dxr.proofs.Rising.{fine-rises}
use Rattle.dxr.proofs.Chunks.{chunk_answers, chunk_is_fine, chunk_small, chunk_few}
use Rattle.dxr.proofs.ChunkWords.{Words, words-nil, words-cons, words_append, Leads, word_leads, fits, words_fit, main_fits}

-- a lookup where the address's main word leads to the entries es
looked_up : (W S : ℕ) (main ws : List ℕ) (q : ℕ) (es : List Range) → length main ≡ 2 ^ S →
    Leads (chunk_size W S) (get_or main (q / chunk_size W S) 0) ws es →
    dxr_lookup W S main ws q ≡ value (hop_at 0 es (q % chunk_size W S))
looked_up W S main ws q es size l =
    rw (eq-eqb (length main) (2 ^ S) size, l.accepted, l.answers (q % chunk_size W S))

-- the split of the code
pub split-16 : Split 32 16
split-16 = record { narrow = omega arith; wide = omega arith }

-- a key has at most 16 bits
pub size_small : (W S : ℕ) → Split W S → chunk_size W S ≤ 65536
size_small W S split = pow_mono {i = W - S} {j = 16} (omega arith)

-- the chunks are one for each number of S bits
pub chunk_there : (W S q : ℕ) → Split W S → q < 2 ^ W → q / chunk_size W S < 2 ^ S
chunk_there W S q split lt = shr_lt S (W - S) (rw (add-sub_of_le split.narrow) lt)

module _ (W S : ℕ) (t : List Range) where
  -- the range words of chunk c stand behind those of the chunks before it
  pub stands : (n c : ℕ) → c < n → (rest : List ℕ) × (all_words W S t n ≡ all_words W S t c ++ (words (chunk W S t c) ++ rest))
  stands zero c lt = absurd (omega arith)
  stands (suc n) c lt = by_test (eqb c n)
      (λ e. rw (eqb-true c n e) ([], ap (λ l. all_words W S t n ++ l) (sym (append-nil _))))
      (λ e. let before = stands n c (omega orders) in
      (before.0 ++ words (chunk W S t n), rw before.1 (simp append_assoc)))

  pub main_length : (n : ℕ) → length (main_words W S t n) ≡ n
  main_length zero = refl
  main_length (suc n) = length-append (main_words W S t n) _ ∙ omega (arith, main_length n)

  pub main_at : (n c : ℕ) → c < n → get_or (main_words W S t n) c 0 ≡ main_word (chunk W S t c) (length (all_words W S t c))
  main_at zero c lt = absurd (omega arith)
  main_at (suc n) c lt = by_test (eqb c n)
      (λ e. rw (eqb-true c n e) (get_or_at (main_words W S t n) (main_word (chunk W S t n) (length (all_words W S t n))) [] 0 n (main_length n)))
      (λ e. get_or-append (main_words W S t n) _ 0 c (omega (orders, main_length n)) ∙ main_at n c (omega orders))

  -- chunk c as it stands in the table: its main word, and its range words behind those of the chunks before it
  pub shown_in : (c : ℕ) → c < 2 ^ S →
      (rest : List ℕ)
      × (get_or (table_main W S t) c 0 ≡ main_word (chunk W S t c) (length (all_words W S t c)))
      × (table_words W S t ≡ all_words W S t c ++ (words (chunk W S t c) ++ rest))
  unfolding table_main table_words
  shown_in c lt = let part = stands (2 ^ S) c lt in (part.0, main_at (2 ^ S) c lt, part.1)

module _ (W S : ℕ) (split : Split W S) (t : List Range) (ok : table_fault t ≡ fine) where
  pub fit : (c : ℕ) → Fits (chunk W S t c)
  fit c =
      let rises = fine-rises t ok in
      fits (chunk_size W S) (chunk W S t c) (size_small W S split) (chunk_is_fine W S t c rises.rise) (chunk_small W S t c rises.small)

  -- what is built fits 32 bits
  pub all_words_fit : (n : ℕ) → Words (all_words W S t n)
  all_words_fit zero = words-nil
  all_words_fit (suc n) = words_append (all_words W S t n) (words (chunk W S t n)) (all_words_fit n) (words_fit (chunk W S t n) (fit n))

  -- few enough ranges for a count of 14 bits, few enough range words for a position of 16
  module _ (few : length t < 16383) (low : (c : ℕ) → length (all_words W S t c) < 65536) where
    pub main_words_fit : (n : ℕ) → Words (main_words W S t n)
    main_words_fit zero = words-nil
    main_words_fit (suc n) = words_append (main_words W S t n) _ (main_words_fit n)
        (words-cons _ [] (main_fits (chunk W S t n) (length (all_words W S t n)) (fit n) (omega (arith, chunk_few W S t n)) (low n)) words-nil)

    -- the main word of chunk c leads to its entries, whatever stands behind the range words
    pub leads_to : (n c : ℕ) → c < n → (rest : List ℕ) →
        Leads (chunk_size W S) (get_or (main_words W S t n) c 0) (all_words W S t n ++ rest) (chunk W S t c)
    leads_to n c lt rest =
        let part = stands W S t n c lt in
        rw (
          main_at W S t n c lt,
          part.1,
          append_assoc (all_words W S t c) (words (chunk W S t c) ++ part.0) rest,
          append_assoc (words (chunk W S t c)) part.0 rest,
        )
        (word_leads (chunk_size W S) (chunk W S t c) (all_words W S t c) (part.0 ++ rest) (fit c)
        (chunk_is_fine W S t c (fine-rises t ok).rise) (omega (arith, chunk_few W S t c)) (low c))

    -- so the table answers as the ranges do
    pub table_answers : (rest : List ℕ) (q : ℕ) → q < 2 ^ W → dxr_lookup W S (table_main W S t) (table_words W S t ++ rest) q ≡ value (hop_at 0 t q)
    unfolding table_main table_words
    table_answers rest q lt =
        let c = q / chunk_size W S in
        let key = q % chunk_size W S in
        let main = leads_to (2 ^ S) c (chunk_there W S q split lt) rest in
        let in_chunk = chunk_answers W S t c (fine-rises t ok).rise key (mod-lt q (pow_pos _)) in
        looked_up W S (main_words W S t (2 ^ S)) (all_words W S t (2 ^ S) ++ rest) q (chunk W S t c) (main_length W S t (2 ^ S)) main
        ∙ ap value (in_chunk ∙ ap (hop_at 0 t) (div-add-mod' q (chunk_size W S)))
