-- What the code reads is to the definitions.
use Rattle.std.specs.Prelude.{map}
use Rattle.html_tokens.specs.Bytes.{lowered}
use Rattle.html_tokens.specs.Views.{attribute_of}
use Rattle.page_finds.specs.declared.tags.Placed as code_placed
use Rattle.page_finds.specs.declared.tags.Tag as code_tag
use Rattle.page_finds.specs.Tags.{Placed, Tag}

abbrev pub placed_of : code_placed.Placed → Placed
placed_of p = record { attribute = attribute_of p.attribute; from = p.from; to = p.to }

abbrev pub tag_of : code_tag.Tag → Tag
tag_of t = record { name = lowered t.name.now; attributes = map placed_of t.attributes.items; inside = t.inside.now; from = t.from; to = t.to }
