-- The passes over a range table, from one chunk in which a range starts to the next: which chunks and ranges are passed, how many words
-- there are, what is written.
use Prim.Native.Nat.{ℕ, zero, suc, ◌+◌, ◌-◌, ◌*◌, ◌^◌, ◌≤◌, ◌<◌}
use mathlib.Core.Path.{◌≡◌, sym, ◌∙◌, ap}
use mathlib.Core.List.{List, [], ◌∷◌, ◌++◌, append-nil, append_assoc}
use native.Mathlib.Omega.{arith}
use native.Mathlib.Nat.{add-zero, div-add-mod', le-div_iff_mul-le}
use native.Mathlib.Numerals.{add-one}
use borrow.Rule.Slice.PartMut.{put_mid}
use lib.ListN.{length, get_or, take, drop, set, replicate, length-append, replicate-append-replicate}
use lib.Pow.{pow_pos}
use lib.Seq.{length-sets, sets}
use Rattle.ranges.specs.Ranges.{Range, ranges}
use Rattle.route.specs.Rows.{overwritten}
use Rattle.dxr.specs.Dxr.{chunk_size, chunk, words, main_word, all_words, main_words, table_words, table_main}
use Rattle.dxr.specs.Splits.{Split}
use Rattle.dxr.specs.Loops.{HasRoom, Splittable}
use Rattle.dxr.specs.Shown.{words_of, IsMain, IsNext, IsStored}
use Rattle.dxr.specs.Chunks.{entries_in}
use Rattle.dxr.specs.declared.build.Next.{Next}
use Rattle.dxr.specs.declared.chunk.Stored.{Stored}
use Rattle.dxr.specs.declared.main_word.MainWord.{MainWord}
use Rattle.dxr.proofs.Fills.{sets_more, sets-front, filled-part}
use Rattle.dxr.proofs.DxrTable.{fit, stands, main_length}
use Rattle.ranges.proofs.Rows.{ranges-length}
use Rattle.dxr.proofs.Chunks.{chunk_few}
use Rattle.dxr.proofs.Entries.{main-many}
use Rattle.dxr.proofs.Parts.{alone-words, alone-main}

-- chunk c is next: range `from` starts at or before its first address, and those behind it start there or later
pub record ReachedTo (W S : ℕ) (ss hs : List ℕ) (from c : ℕ) : Type 0 where
  pub rows : Splittable W S ss hs
  pub upto : c ≤ 2 ^ S
  pub within : from < length ss
  pub start : get_or ss from 0 ≤ c * chunk_size W S
  pub next : from + 1 < length ss → c * chunk_size W S ≤ get_or ss (from + 1) 0

-- the chunks before chunk d in which no range starts
module _ {W S : ℕ} {ss hs : List ℕ} {from c : ℕ} (h : ReachedTo W S ss hs from c) where
  abbrev t : List Range
  t = ranges ss hs

  -- up to the chunk in which the next range starts, if there is one
  abbrev pub Free : ℕ → Type 0
  Free d = from + 1 < length ss → d * chunk_size W S ≤ get_or ss (from + 1) 0

  free_at : (k : ℕ) → Free (c + suc k) → Free (c + k + 1)
  free_at k f l = let e : c + suc k ≡ c + k + 1 = omega arith in rw e at (f l)

  less : (k : ℕ) → Free (c + suc k) → Free (c + k)
  less k f l = omega (arith, free_at k f l, pow_pos (W - S))

  below : (k : ℕ) → get_or ss from 0 ≤ (c + k) * chunk_size W S
  below k = omega (arith, h.start)

  skip_words : (k : ℕ) → Free (c + k) → all_words W S t (c + k) ≡ all_words W S t c
  skip_words zero f = rw add-zero
  skip_words (suc k) f =
      let e : c + suc k ≡ suc (c + k) = omega arith in
      rw (e, alone-words h.rows from (c + k) h.within (below k) (free_at k f), append-nil) (skip_words k (less k f))

  skip_main : (k : ℕ) → Free (c + k) → main_words W S t (c + k) ≡ main_words W S t c ++ replicate k (get_or hs from 0)
  skip_main zero f = rw add-zero (sym (append-nil (main_words W S t c)))
  skip_main (suc k) f =
      let e : c + suc k ≡ suc (c + k) = omega arith in
      rw (e, alone-main h.rows from (c + k) h.within (below k) (free_at k f) (length (all_words W S t (c + k))), skip_main k (less k f))
      (append_assoc (main_words W S t c) (replicate k (get_or hs from 0)) (get_or hs from 0 ∷ [])
      ∙ ap (λ l. main_words W S t c ++ l) (replicate-append-replicate k 1 (get_or hs from 0) ∙ ap (λ n. replicate n (get_or hs from 0)) (add-one k)))

  module _ {d : ℕ} (le : c ≤ d) (f : Free d) where
    many : c + (d - c) ≡ d
    many = omega arith

    pub skip-words : all_words W S t d ≡ all_words W S t c
    skip-words = rw many at (skip_words (d - c) (rw many f))

    pub skip-main : main_words W S t d ≡ main_words W S t c ++ replicate (d - c) (get_or hs from 0)
    skip-main = rw many at (skip_main (d - c) (rw many f))

    pub skip-reached : d ≤ 2 ^ S → ReachedTo W S ss hs from d
    skip-reached l = record { rows = h.rows; upto = l; within = h.within; start = rw many at (below (d - c)); next = f }

-- the next chunk in which a range starts
module _ {W S : ℕ} {ss hs : List ℕ} {from c : ℕ} (h : ReachedTo W S ss hs from c) {n : Next} (is : IsNext W S ss hs from n) where
  next-later : c ≤ n.number
  next-later = rw is.is ((le-div_iff_mul-le (pow_pos (W - S))).1 (h.next is.more))

  next-free : Free h n.number
  next-free m = rw is.is (omega (arith, div-add-mod' (get_or ss (from + 1) 0) (chunk_size W S)))

  reached-turn : ReachedTo W S ss hs n.last (n.number + 1)
  reached-turn = record {
    rows = h.rows;
    upto = omega (arith, is.there);
    within = is.stop.within;
    start = omega (arith, is.stop.start, pow_pos (W - S));
    next = λ m. omega (arith, is.stop.next m, pow_pos (W - S));
  }

  -- it has few entries, and at least one
  pub next-some : 0 < length (entries_in n.chunk)
  next-some = rw is.entries (omega arith)

  pub next-few : length (entries_in n.chunk) < 16384
  next-few = rw is.entries (omega (arith, chunk_few W S (ranges ss hs) n.number, ranges-length ss hs h.rows.equal, h.rows.few))

  next_words : all_words W S (ranges ss hs) (n.number + 1) ≡ all_words W S (ranges ss hs) n.number ++ words (entries_in n.chunk)
  next_words = rw (add-one, is.entries)

  next_main : {used : ℕ} → used ≡ length (all_words W S (ranges ss hs) n.number) →
      main_words W S (ranges ss hs) (n.number + 1) ≡ main_words W S (ranges ss hs) n.number ++ (main_word (entries_in n.chunk) used ∷ [])
  next_main e = rw (add-one, is.entries, e)

-- so many words in the chunks before chunk c
pub record CountedTo (W S : ℕ) (ss hs : List ℕ) (from sum c : ℕ) : Type 0 where
  pub reached : ReachedTo W S ss hs from c
  pub count : sum ≡ length (all_words W S (ranges ss hs) c)

module _ {W S : ℕ} {ss hs : List ℕ} {from sum c : ℕ} (h : CountedTo W S ss hs from sum c) where
  -- on to chunk d
  pub count-skip : {d : ℕ} → c ≤ d → d ≤ 2 ^ S → Free h.reached d → CountedTo W S ss hs from sum d
  count-skip le up f = record { reached = skip-reached h.reached le f up; count = rw (skip-words h.reached le f) h.count }

  -- so few that they fit a position
  pub count_room : sum < 65536
  count_room = rw h.count (h.reached.rows.low c)

  module _ {n : Next} (is : IsNext W S ss hs from n) (m : MainWord) (main : IsMain (entries_in n.chunk) sum m) where
    -- at the next chunk in which a range starts
    counted-there : CountedTo W S ss hs from sum n.number
    counted-there = count-skip (next-later h.reached is) (omega (arith, is.there)) (next-free h.reached is)

    next : sum + words_of m ≡ length (all_words W S (ranges ss hs) (n.number + 1))
    next = rw (next_words h.reached is, length-append, main-many _ sum m main, ← counted-there.count)

    pub count_turn : CountedTo W S ss hs n.last (sum + words_of m) (n.number + 1)
    count_turn = record { reached = reached-turn h.reached is; count = next }

    pub count_low : sum + words_of m < 65536
    count_low = omega (arith, next, h.reached.rows.low (n.number + 1))

  -- behind the last range no chunk has words
  pub count-end : length ss ≤ from + 1 → sum ≡ length (table_words W S (ranges ss hs))
  unfolding table_words
  count-end l = (count-skip h.reached.upto (omega arith) (λ m. absurd (omega arith))).count

-- the chunks before chunk c are written
pub record WrittenTo (W S : ℕ) (ss hs ms₀ ws₀ ms ws : List ℕ) (from used c : ℕ) : Type 0 where
  pub reached : ReachedTo W S ss hs from c
  pub size : length ms₀ ≡ 2 ^ S
  pub room : length (table_words W S (ranges ss hs)) ≤ length ws₀
  pub count : used ≡ length (all_words W S (ranges ss hs) c)
  pub main : ms ≡ sets ms₀ 0 (main_words W S (ranges ss hs) c)
  pub words : ws ≡ sets ws₀ 0 (all_words W S (ranges ss hs) c)

module _ {W S : ℕ} {ss hs ms₀ ws₀ ms ws : List ℕ} {from used c : ℕ} (h : WrittenTo W S ss hs ms₀ ws₀ ms ws from used c) where
  -- the rows keep their lengths
  main-length : length ms ≡ 2 ^ S
  main-length = rw (h.main, length-sets) h.size

  pub words-length : length ws ≡ length ws₀
  words-length = rw (h.words, length-sets)

  -- the chunks up to chunk d have the hop of range `from`
  pub written-skip : {d : ℕ} → c ≤ d → d ≤ 2 ^ S → Free h.reached d → {ms' : List ℕ} → ms' ≡ sets ms c (replicate (d - c) (get_or hs from 0)) →
      WrittenTo W S ss hs ms₀ ws₀ ms' ws from used d
  written-skip {d} le up f is = record {
    reached = skip-reached h.reached le f up;
    size = h.size;
    room = h.room;
    count = rw (skip-words h.reached le f) h.count;
    main = is
        ∙ rw (h.main, skip-main h.reached le f)
        (sets_more ms₀ (main_words W S (ranges ss hs) c) (replicate (d - c) (get_or hs from 0)) (sym (main_length W S (ranges ss hs) c)));
    words = rw (skip-words h.reached le f) h.words;
  }

  -- behind the last range all have
  pub written-rest : length ss ≤ from + 1 → {part : List ℕ} → part ≡ replicate (length (take (length ms - c) (drop c ms))) (get_or hs from 0) →
      WrittenTo W S ss hs ms₀ ws₀ (put_mid c (length ms - c) ms part) ws from used (2 ^ S)
  written-rest l {part} filled =
      written-skip h.reached.upto (omega arith) (λ m. absurd (omega arith))
      (rw (← main-length) (filled-part ms part c (length ms - c) (get_or hs from 0) (omega (arith, main-length, h.reached.upto)) filled))

  -- up to the next chunk in which a range starts
  module _ {n : Next} (is : IsNext W S ss hs from n) {part : List ℕ}
      (filled : part ≡ replicate (length (take (n.number - c) (drop c ms))) (get_or hs from 0)) where
    here : WrittenTo W S ss hs ms₀ ws₀ (put_mid c (n.number - c) ms part) ws from used n.number
    here =
        written-skip (next-later h.reached is) (omega (arith, is.there)) (next-free h.reached is)
        (filled-part ms part c (n.number - c) (get_or hs from 0) (omega (arith, main-length, next-later h.reached is, is.there)) filled)

    pub written-room : Split W S → HasRoom (entries_in n.chunk) ws used
    unfolding table_words
    written-room split =
        let t = ranges ss hs in
        let c = n.number in
        let s = stands W S t (2 ^ S) c is.there in
        let whole = ap length s.1 ∙ length-append (all_words W S t c) (words (chunk W S t c) ++ s.0) in
        let behind = length-append (words (chunk W S t c)) s.0 in
        record {
          fits = rw is.entries (fit W S split t h.reached.rows.rules c);
          some = next-some h.reached is;
          few = next-few h.reached is;
          low = rw here.count (h.reached.rows.low c);
          room = rw is.entries (omega (arith, h.room, here.count, words-length));
        }

    module _ {s : Stored} {ws' : List ℕ} (put : IsStored (entries_in n.chunk) used ws s ws') where
      pub written-turn : WrittenTo W S ss hs ms₀ ws₀ (set (put_mid c (n.number - c) ms part) n.number s.word) ws' n.last s.used (n.number + 1)
      written-turn = record {
        reached = reached-turn h.reached is;
        size = h.size;
        room = h.room;
        count = rw (put.next, next_words h.reached is, length-append, ← here.count);
        main = rw (here.main, put.main, next_main h.reached is here.count)
            (sets_more ms₀ (main_words W S (ranges ss hs) n.number) _ (sym (main_length W S (ranges ss hs) n.number)));
        words = put.row
            ∙ rw (here.words, next_words h.reached is) (sets_more ws₀ (all_words W S (ranges ss hs) n.number) (words (entries_in n.chunk)) here.count);
      }

-- all chunks are written
pub written-end : {W S : ℕ} {ss hs ms₀ ws₀ ms ws : List ℕ} {from used : ℕ} → WrittenTo W S ss hs ms₀ ws₀ ms ws from used (2 ^ S) →
    (ms ≡ overwritten (table_main W S (ranges ss hs)) ms₀) × (ws ≡ overwritten (table_words W S (ranges ss hs)) ws₀)
unfolding table_main table_words
written-end {W} {S} {ss} {hs} {ms₀} {ws₀} h = (
  h.main ∙ sets-front (main_words W S (ranges ss hs) (2 ^ S)) ms₀ (rw (main_length W S (ranges ss hs) (2 ^ S)) (omega (arith, h.size))),
  h.words ∙ sets-front (all_words W S (ranges ss hs) (2 ^ S)) ws₀ h.room,
)
