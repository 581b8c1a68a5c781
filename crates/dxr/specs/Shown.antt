-- What the code's types say: a main word, a chunk that is stored, the next chunk of a build, a pass over entries.
use Rattle.std.specs.Prelude.{ℕ, ◌+◌, ◌-◌, ◌*◌, ◌/◌, ◌^◌, ◌≤◌, ◌<◌, ◌≡◌, Bool, true, false, cond, ◌&&◌, List, eqb, leb, ltb, length}
use Rattle.std.specs.Prelude.{drop, get_or, Option, None, Some, Ok}
use Rattle.std.proofs.lemmas.List.Edits.{sets}
use Rattle.route.specs.Limits.{max_hop}
use Rattle.route.specs.Refusals.{value}
use Rattle.route.specs.Shown.{hop_number, shown}
use Rattle.ranges.specs.Ranges.{Range, range, ranges}
use Rattle.ranges.specs.Loops.{below}
use Rattle.dxr.specs.Dxr.{chunk_size, all_short, chunk, words, pointer, main_word, part_length, chunk_fine, entries_fine}
use Rattle.dxr.specs.Loops.{LastAt}
use Rattle.dxr.specs.Chunks.{entries_in}
use Rattle.dxr.specs.declared.main_word.Form.{Form}
use Rattle.dxr.specs.declared.main_word.Form.TheVariants.{Long, Short}
use Rattle.dxr.specs.declared.main_word.MainWord.{MainWord}
use Rattle.dxr.specs.declared.main_word.MainWord.TheVariants.{Direct, Pointer}
use Rattle.dxr.specs.declared.chunk.Stored.{Stored}
use Rattle.dxr.specs.declared.build.Next.{Next}
use Rattle.dxr.specs.declared.lookup.Pass.{Pass}

-- whether a form is the short one
abbrev pub is_short_form : Form → Bool
is_short_form Long = false
is_short_form Short = true

-- the number of a main word, and how many range words it points to
abbrev pub word_of : MainWord → ℕ
word_of (Direct h) = hop_number h
word_of (Pointer p) = pointer (is_short_form p.form) p.count p.position

abbrev pub words_of : MainWord → ℕ
words_of (Direct h) = 0
words_of (Pointer p) = part_length (is_short_form p.form) p.count

-- what the number w says as a main word, if it breaks no rule that it alone can break
abbrev pub Reads : ℕ → MainWord → Type 0
Reads w (Direct h) = (w ≤ max_hop) × (shown (Ok h) ≡ value w)
Reads w (Pointer p) = (word_of (Pointer p) ≡ w) × (2 ≤ p.count)

abbrev pub Says : ℕ → Option MainWord → Type 0
Says w None = (size : ℕ) (ws : List ℕ) → chunk_fine size w ws ≡ false
Says w (Some m) = Reads w m

-- the ranges of chunk c: from the last that starts at or before its first address up to the last that starts at or before its last
pub record IsPart (W S c : ℕ) (ss : List ℕ) (first last : ℕ) : Type 0 where
  pub some : first ≤ last
  pub start : LastAt (c * chunk_size W S) ss first
  pub stop : LastAt (c * chunk_size W S + (chunk_size W S - 1)) ss last

-- the next chunk behind range `from` in which a range starts, with its entries
pub record IsNext (W S : ℕ) (ss hs : List ℕ) (from : ℕ) (n : Next) : Type 0 where
  pub more : from + 1 < length ss
  pub later : from < n.last
  pub is : n.number ≡ get_or ss (from + 1) 0 / chunk_size W S
  pub there : n.number < 2 ^ S
  pub stop : LastAt (n.number * chunk_size W S + (chunk_size W S - 1)) ss n.last
  pub entries : entries_in n.chunk ≡ chunk W S (ranges ss hs) n.number

abbrev pub NextIs : ℕ → ℕ → List ℕ → List ℕ → ℕ → Option Next → Type 0
NextIs W S ss hs from None = length ss ≤ from + 1
NextIs W S ss hs from (Some n) = IsNext W S ss hs from n

-- the main word of the entries es, where their range words have this position: the hop of a single entry, or where they stand
abbrev pub IsMain : List Range → ℕ → MainWord → Type 0
IsMain es position (Direct h) = (length es ≡ 1) × (hop_number h ≡ (get_or es 0 (range 0 0)).hop)
IsMain es position (Pointer p) = (1 < length es) × (is_short_form p.form ≡ all_short es) × (p.count ≡ length es) × (p.position ≡ position)

-- the entries es are stored behind the words that were used: their main word, how many words are used then, and the row of words
pub record IsStored (es : List Range) (used : ℕ) (ws : List ℕ) (s : Stored) (ws' : List ℕ) : Type 0 where
  pub main : s.word ≡ main_word es used
  pub next : s.used ≡ used + length (words es)
  pub row : ws' ≡ sets ws used (words es)

-- the pass over a first entry with this start, and over one more behind those of p
abbrev pub pass_first : ℕ → Pass
pass_first s = record { fine = eqb s 0; below = 0; last = s }

abbrev pub pass_next : Pass → ℕ → ℕ → Pass
pass_next p s key = record { fine = p.fine && ltb p.last s; below = p.below + cond (leb s key) 1 0; last = s }

-- a pass over all of the entries es: whether they keep the rules, and how many behind the first start at or below the key
pub record IsPassed (size key : ℕ) (es : List Range) (p : Pass) : Type 0 where
  pub rules : p.fine ≡ entries_fine size es
  pub many : p.below ≡ below (drop 1 es) key
