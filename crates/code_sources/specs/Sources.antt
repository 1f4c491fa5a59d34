-- The sources of a page and of markup, in the order of their places.
use Rattle.std.specs.Prelude.{ℕ, if◌then◌else◌, List, ◌++◌, flat_map, codes}
use Rattle.code_sources.specs.declared.sources.Source.{Source}
use Rattle.code_sources.specs.Attributes.{sources_in_attribute}
use Rattle.code_sources.specs.Scripts.{sources_in_script, unseen}
use Rattle.code_sources.specs.Tags.{Tag, tags_in, is_named}

abbrev pub sources_in_attributes : Tag → List Source
sources_in_attributes t = flat_map sources_in_attribute t.attributes

unfoldable pub sources_in_tag : List (List ℕ) → Tag → List Source
sources_in_tag scripts t =
    if is_named (codes "script") t then unseen scripts t ++ sources_in_attributes t ++ sources_in_script t
    else sources_in_attributes t

-- of a page, where the names of the scripts that are handed in are given
unfoldable pub sources_in_page : List (List ℕ) → List ℕ → List Source
sources_in_page scripts page = flat_map (sources_in_tag scripts) (tags_in page)

-- in the markup of a string
unfoldable pub sources_in_markup : List ℕ → List Source
sources_in_markup text = flat_map sources_in_attributes (tags_in text)
