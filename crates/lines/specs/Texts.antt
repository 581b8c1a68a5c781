-- Numbers, addresses, prefixes and routes as texts: bytes, each a character's ASCII code.
use Rattle.std.specs.Prelude.{ℕ, zero, suc, ◌+◌, ◌/◌, ◌%◌, ◌^◌, cond, List, [], ◌∷◌, ◌++◌, ltb}
use Prim.Native.Char.{Char, code}
use Rattle.route.specs.Rule.{Route}

-- a digit's character
abbrev pub digit : ℕ → List ℕ
digit d = (48 + d) ∷ []

-- the digits of a number below 10^k, the most significant first
abbrev pub digits : ℕ → ℕ → List ℕ
digits zero n = []
digits (suc k) n = cond (ltb n 10) (digit n) (digits k (n / 10) ++ digit (n % 10))

-- a number below 2^64, which has at most 20 digits
unfoldable pub decimal : ℕ → List ℕ
decimal n = digits 20 n

-- a number behind a character
abbrev pub behind : Char → ℕ → List ℕ
behind c n = code c ∷ decimal n

-- an address of 32 bits: its four octets
abbrev pub dotted_quad : ℕ → List ℕ
dotted_quad a =
    decimal (a / 2 ^ 24) ++ behind "." (a / 2 ^ 16 % 256) ++ behind "." (a / 2 ^ 8 % 256) ++ behind "." (a % 256)

-- a prefix: its address, and its length behind a slash
abbrev pub prefix_text : ℕ → ℕ → List ℕ
prefix_text a n = dotted_quad a ++ behind "/" n

-- a prefix and its hop
abbrev pub route_text : Route → List ℕ
route_text r = prefix_text r.address r.length ++ behind " " r.hop
