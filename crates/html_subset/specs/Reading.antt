-- Pages and markup, from their bytes.
use Rattle.std.specs.Prelude.{ℕ, ◌==◌, if◌then◌else◌, List, length, Err}
use Rattle.std.specs.Str.Lossy.{utf8_valid_len}
use Rattle.text_bytes.specs.OrderMark.{behind_order_mark}
use Rattle.tp_base.specs.Names.{Named}
use Rattle.tree_sem.specs.Trees.{LabelTree}
use Rattle.html_subset.specs.declared.faults.PageFault.TheVariants.{NotUtf8}
use Rattle.html_tokens.specs.Tokens.{tokens}
use Rattle.html_subset.specs.Pages.{Ending, page_of, forest_of}

-- what is read of bytes that are UTF-8; any other are refused where the first one stands that isn't
abbrev pub if_utf8 : {A : Type 0} → List ℕ → List Named → Ending A → Ending A
if_utf8 bs table read = if utf8_valid_len bs == length bs then read else (table, Err (NotUtf8 (utf8_valid_len bs)))

-- A page: its tokens are read one after the other, behind a byte order mark. The names come into the table, also those before a fault.
unfoldable pub read_page : List ℕ → List Named → Ending LabelTree
read_page bs table = if_utf8 bs table (page_of (tokens (length bs) (behind_order_mark bs)) table)

-- Markup: the same, for trees next to one another. A byte order mark in it is text.
unfoldable pub read_forest : List ℕ → List Named → Ending (List LabelTree)
read_forest bs table = if_utf8 bs table (forest_of (tokens (length bs) bs) table)
