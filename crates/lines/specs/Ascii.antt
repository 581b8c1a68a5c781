-- A text's bytes: the ASCII codes of its characters.
use Rattle.std.specs.Prelude.{ℕ, List, [] as nil, ◌∷◌ as cons}
use Prim.Native.Char.{code}
use Prim.Native.String.{String, [], ◌∷◌}

abbrev pub ascii : String → List ℕ
ascii [] = nil
ascii (c ∷ text) = cons (code c) (ascii text)
