-- How tokens are spelled.
use Rattle.std.specs.Prelude.{ℕ, ◌&&◌, Bool, if◌then◌else◌, List, take, drop, codes, bytes_eq}
use Rattle.code_scan.specs.declared.token.Token.{Token}
use Rattle.code_scan.specs.declared.token.TokenKind.{TokenKind}
use Rattle.code_scan.specs.declared.token.TokenKind.TheVariants.{Text, Mark, Plus, Open, Close, Dot, Member}
use Rattle.code_scan.specs.States.{is_mark}

-- the bytes of the text that a token is read of
abbrev pub spelling : List ℕ → Token → List ℕ
spelling text t = drop t.from (take t.to text)

-- whether a token is this mark as it is written
unfoldable pub is_written : List ℕ → List ℕ → Token → Bool
is_written text mark t = is_mark t.kind && bytes_eq (spelling text t) mark

-- `?.` is as a dot
abbrev pub meant_mark : List ℕ → List ℕ
meant_mark mark = if bytes_eq mark (codes "?.") then codes "." else mark

abbrev pub meant_as : TokenKind → List ℕ → List ℕ
meant_as (Text letters) bytes = letters
meant_as (Member name) bytes = name
meant_as Mark bytes = meant_mark bytes
meant_as Plus bytes = codes "+"
meant_as Open bytes = codes "("
meant_as Close bytes = codes ")"
meant_as Dot bytes = codes "."
meant_as kind bytes = bytes

-- what a token says: the letters of a Text, the name of a member, else what is written
unfoldable pub words_of : List ℕ → Token → List ℕ
words_of text t = meant_as t.kind (spelling text t)
