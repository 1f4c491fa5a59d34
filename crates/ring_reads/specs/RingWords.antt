-- The words of a ring's script.
--     look            what a word is: its kind and its spelling
--     ring_words n    those of the script of n boxes
--     ScansRings      the script of a ring has these words, one after another
use Rattle.std.specs.Prelude.{◌≡◌, ℕ, ◌+◌, ◌%◌, ◌≤◌, List, [], ◌∷◌, ◌++◌, map, codes, Ok}
use Rattle.std.specs.List.{flat_map, range_with_len}
use Rattle.std.specs.Fmt.{decimal}
use Rattle.js_scan.specs.declared.token.Token.{Token}
use Rattle.js_scan.specs.declared.token.TokenKind.{TokenKind}
use Rattle.js_scan.specs.declared.token.TokenKind.TheVariants.{Name, Text, Mark}
use Rattle.js_scan.specs.Tokens.{script_tokens}
use Rattle.jq_words.specs.Words.{Word, words}
use Rattle.triple_gen.specs.declared.triple.TheConstants.{MOST_BOXES}
use Rattle.triple_gen.specs.Ring.{script}

abbrev pub Look : Type 0
Look = TokenKind × List ℕ

abbrev pub look : Word → Look
look w = (w.kind, w.spelling)

abbrev pub quoted_text : List ℕ → List ℕ
quoted_text letters = 39 ∷ (letters ++ 39 ∷ [])

-- $('root').call('argument');
abbrev pub line_words : List ℕ → List ℕ → List ℕ → List Look
line_words root call argument =
    (Name, codes "$") ∷ (Mark, codes "(") ∷ (Text root, quoted_text root) ∷ (Mark, codes ")") ∷ (Mark, codes ".") ∷ (Name, call) ∷ (Mark, codes "(")
    ∷ (Text argument, quoted_text argument) ∷ (Mark, codes ")") ∷ (Mark, codes ";") ∷ []

-- the selector of box i
abbrev pub root_of : ℕ → List ℕ
root_of i = 46 ∷ 107 ∷ decimal i

-- the classes of a child of box i, where j is the box behind it
abbrev pub classes_of : ℕ → ℕ → List ℕ
classes_of i j = (107 ∷ decimal j) ++ (32 ∷ 103 ∷ decimal i)

abbrev pub box_of : List ℕ → List ℕ
box_of class = codes "<div class=\"" ++ (class ++ codes "\"></div>")

abbrev pub box_words : ℕ → ℕ → List Look
box_words i j = line_words (root_of i) (codes "append") (box_of (classes_of i j))

abbrev pub last_words : List Look
last_words = line_words (codes ".t") (codes "addClass") (codes "on")

abbrev pub ring_words : ℕ → List Look
ring_words n = flat_map (λ i. box_words i ((i + 1) % n)) (range_with_len 0 n) ++ last_words

abbrev pub ScansRings : Type 0
ScansRings = (n : ℕ) → n ≤ MOST_BOXES → (ts : List Token) × (script_tokens (script n) ≡ Ok ts) × (map look (words (script n) ts) ≡ ring_words n)
