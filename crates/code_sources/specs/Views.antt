-- What the code reads is to the definitions.
use Rattle.std.specs.Prelude.{ℕ, List, [], ◌∷◌, map, encode_utf8}
use Rattle.html_tokens.specs.Bytes.{lowered}
use Rattle.html_tokens.specs.Views.{attribute_of}
use Rattle.code_sources.specs.declared.references.Letter.{Letter}
use Rattle.code_sources.specs.declared.references.Letter.TheVariants.{Byte, Char}
use Rattle.code_sources.specs.declared.references.Part as code_part
use Rattle.code_sources.specs.declared.references.Said as code_said
use Rattle.code_sources.specs.declared.tags.Placed as code_placed
use Rattle.code_sources.specs.declared.tags.Tag as code_tag
use Rattle.code_sources.specs.References.{Part, Said}
use Rattle.code_sources.specs.Tags.{Placed, Tag}

abbrev pub bytes_of : Letter → List ℕ
bytes_of (Byte b) = b ∷ []
bytes_of (Char c) = encode_utf8 c

abbrev pub part_of : code_part.Part → Part
part_of p = record { letters = bytes_of p.letter; rest = p.rest.now; sure = p.is_sure }

abbrev pub said_of : code_said.Said → Said
said_of s = record { text = s.text; sure = s.is_sure }

abbrev pub placed_of : code_placed.Placed → Placed
placed_of p = record { attribute = attribute_of p.attribute; value_at = p.value_at }

abbrev pub tag_of : code_tag.Tag → Tag
tag_of t = record { name = lowered t.name.now; attributes = map placed_of t.attributes; inside = t.inside.now; at = t.at; inside_at = t.inside_at }
