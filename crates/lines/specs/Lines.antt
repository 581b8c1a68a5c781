-- The lines of the report, each with its line end, and what a call that writes a text leaves in a lent buffer.
use Rattle.std.specs.Prelude.{ℕ, ◌≡◌, cond, List, ◌++◌, ltb, length, drop}
use Rattle.route.specs.Rule.{Route, route}
use Rattle.route.specs.Refusals.{Answer, fault_if, unless_fault, value, room_refusal}
use Rattle.lines.specs.Ascii.{ascii}
use Rattle.lines.specs.Texts.{decimal, behind, route_text}

-- the first line: the number of slots
abbrev pub header_line : ℕ → List ℕ
header_line slots = ascii "routes" ++ behind " " slots ++ ascii "\n"

-- an update that was made: the record's number, the word, the prefix, the hop, the writes, and the used slots after it
abbrev pub update_line : ℕ → List ℕ → Route → ℕ → ℕ → List ℕ
update_line nth word r writes used =
    decimal nth ++ word ++ route_text r ++ behind " " writes ++ behind " " used ++ ascii "\n"

abbrev pub set_line : ℕ → Route → ℕ → ℕ → List ℕ
set_line nth r writes used = update_line nth (ascii " set ") r writes used

-- a removal has hop 0
abbrev pub remove_line : ℕ → ℕ → ℕ → ℕ → ℕ → List ℕ
remove_line nth a n writes used = update_line nth (ascii " remove ") (route a n 0) writes used

-- an update that was refused, or a record that cannot be read: the record's number, and the refusal's
abbrev pub refused_line : ℕ → ℕ → List ℕ
refused_line nth refusal = decimal nth ++ ascii " refused" ++ behind " " refusal ++ ascii "\n"

-- a used slot and its route
abbrev pub slot_line : ℕ → Route → List ℕ
slot_line slot r = ascii "slot" ++ behind " " slot ++ ascii " " ++ route_text r ++ ascii "\n"

-- the last line
abbrev pub end_line : List ℕ
end_line = ascii "end\n"

-- the only line where the input is too long
abbrev pub too_long_line : List ℕ
too_long_line = ascii "too long\n"

-- no line is longer
abbrev pub max_line : ℕ
max_line = 256

-- write a text: refusal 9 where the buffer is shorter, or the number of bytes
abbrev pub text_answer : List ℕ → List ℕ → Answer
text_answer text buffer = unless_fault (fault_if (ltb (length buffer) (length text)) room_refusal 0) (value (length text))

-- the buffer afterwards: the text, and the bytes behind it as found; as it was where it is shorter
abbrev pub text_after : List ℕ → List ℕ → List ℕ
text_after text buffer = cond (ltb (length buffer) (length text)) buffer (text ++ drop (length text) buffer)

-- what a call that writes a text answers, and the lent buffer after it
pub record IsWritten (text buffer : List ℕ) (answer : Answer) (buffer' : List ℕ) : Type 0 where
  pub answers : answer ≡ text_answer text buffer
  pub after : buffer' ≡ text_after text buffer
