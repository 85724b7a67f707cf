-- The store of an encoder in words, for C (profile).
use Rattle.std.specs.Prelude.{ℕ, Bool, if◌then◌else◌, List}
use Rattle.rds_store.specs.Value.{Store}
use Rattle.rds_text.specs.declared.programme_type.Region.TheVariants.{Europe, NorthAmerica}
use Rattle.store_phrases.specs.Said.{said_lines}

-- The lines of phrases that make a store, with the names of programme types of North America or else of Europe (IEC
-- 62106, programme types).
abbrev pub store_words : (is_north_america : Bool) → Store → List ℕ
store_words is_north_america store = said_lines (if is_north_america then NorthAmerica else Europe) store
