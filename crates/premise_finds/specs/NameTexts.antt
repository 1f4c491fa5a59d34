-- How names are written.
use Rattle.std.specs.Prelude.{ℕ, List, [], ◌∷◌, codes, find, Option}
use Rattle.std.specs.Str.{bytes_eq}
use Rattle.premise_finds.specs.declared.names.Name.{Name}
use Rattle.premise_finds.specs.declared.names.Name.TheVariants as name

abbrev pub text_of : Name → List ℕ
text_of name.Quirks = codes "quirks"
text_of name.Xhtml = codes "xhtml"
text_of name.CodeInAnAttribute = codes "code in an attribute"
text_of name.CodeInAnAddress = codes "code in an address"
text_of name.ScriptHere = codes "script here"
text_of name.SheetHere = codes "sheet here"
text_of name.OtherDocument = codes "other document"
text_of name.NoScript = codes "no script"
text_of name.Template = codes "template"
text_of name.OwnElement = codes "own element"
text_of name.TypedInto = codes "typed into"
text_of name.Reference = codes "reference"
text_of name.RawInSvg = codes "raw in svg"
text_of name.HtmlInSvg = codes "html in svg"
text_of name.TagAcrossAnother = codes "tag across another"
text_of name.LeftOpen = codes "left open"
text_of name.InItself = codes "in itself"
text_of name.InATable = codes "in a table"
text_of name.InASelect = codes "in a select"
text_of name.ItemInABlock = codes "item in a block"
text_of name.SelectedContent = codes "selected content"
text_of name.ScriptInAScript = codes "script in a script"
text_of name.FormLeftOpen = codes "form left open"
text_of name.CommentMark = codes "comment mark"
text_of name.Escape = codes "escape"
text_of name.Address = codes "address"
text_of name.NestedRule = codes "nested rule"
text_of name.Import = codes "import"
text_of name.Layer = codes "layer"
text_of name.UnknownToSome = codes "unknown to some"
text_of name.ValueAsked = codes "value asked"

abbrev pub all_names : List Name
all_names =
    name.Quirks ∷ name.Xhtml ∷ name.CodeInAnAttribute ∷ name.CodeInAnAddress ∷
    name.ScriptHere ∷ name.SheetHere ∷ name.OtherDocument ∷ name.NoScript ∷
    name.Template ∷ name.OwnElement ∷ name.TypedInto ∷ name.Reference ∷
    name.RawInSvg ∷ name.HtmlInSvg ∷ name.TagAcrossAnother ∷ name.LeftOpen ∷
    name.InItself ∷ name.InATable ∷ name.InASelect ∷ name.ItemInABlock ∷
    name.SelectedContent ∷ name.ScriptInAScript ∷ name.FormLeftOpen ∷ name.CommentMark ∷
    name.Escape ∷ name.Address ∷ name.NestedRule ∷ name.Import ∷
    name.Layer ∷ name.UnknownToSome ∷ name.ValueAsked ∷ []

-- the one that is written so
abbrev pub name_of : List ℕ → Option Name
name_of text = find (λ n. bytes_eq (text_of n) text) all_names
