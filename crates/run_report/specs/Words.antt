-- How the words of a line are spelled.
use Rattle.std.specs.Prelude.{ℕ, List, [], ◌∷◌, ◌++◌, codes, decimal}
use Rattle.hex.specs.Hex.{encode_lower}

-- a text and a further word, with one space between them
infixl 5 ◌␣◌
abbrev pub ◌␣◌ : List ℕ → List ℕ → List ℕ
text ␣ word = text ++ 32 ∷ word

-- decimal numbers, each behind a space
abbrev pub decimals : List ℕ → List ℕ
decimals [] = []
decimals (n ∷ ns) = [] ␣ decimal n ++ decimals ns

-- bytes in lower-case hex, or `-` for no bytes
abbrev pub hex_text : List ℕ → List ℕ
hex_text [] = codes "-"
hex_text (b ∷ bs) = encode_lower (b ∷ bs)
