-- The groups of a store as lines. (profile)
use Rattle.std.specs.Prelude.{ℕ, Bool, zero, suc, List, [], ◌++◌, codes}
use Rattle.rds_groups.specs.declared.group.Group.{Group}
use Rattle.hex.specs.Hex.{encode_upper}
use Rattle.rds_store.specs.Value.{Store}
use Rattle.carousel.specs.Carousel.{Carousel, switched_on}
use Rattle.carousel.specs.Next.{aired}
use Rattle.uecp_frame.specs.Frame.{high_first}
use Rattle.uecp_text.specs.Digits.{number_word}
use Rattle.uecp_encoder.specs.State.{EncoderState}
use Rattle.output_forms.specs.Forms.{store_lines}
use Rattle.output_forms.specs.declared.form.Form.{Form}
use Rattle.output_forms.specs.declared.form.Form.TheVariants.{Lines, Words, Json}

-- The four words of a group: four upper-case digits each, and a space between two.
unfoldable pub air_words : Group → List ℕ
air_words g =
    encode_upper (high_first g.block1)
    ++ (number_word g.block2 ++ (number_word g.block3 ++ number_word g.block4))

-- The line of a group: its four words, or an object of JSON with them.
abbrev pub air_line : Form → Group → List ℕ
air_line Lines g = air_words g ++ codes "\n"
air_line (Words region) g = air_words g ++ codes "\n"
air_line Json g = codes "{\"format\":1,\"kind\":\"air\",\"group\":\"" ++ (air_words g ++ codes "\"}\n")

-- The lines of the next so many groups that a store sends, one after another.
abbrev pub air_lines : Form → (groups : ℕ) → Store → Carousel → List ℕ
air_lines form zero v c = []
air_lines form (suc groups) v c =
    air_line form (aired v c).0 ++ air_lines form groups (aired v c).1 (aired v c).2

-- What comes last: the store where it is asked for, and then the first groups that a carousel sends of it that is
-- switched on.
abbrev pub last_lines : Form → (store : Bool) → (groups : ℕ) → EncoderState Store → List ℕ
last_lines form store groups e = store_lines form store e.value ++ air_lines form groups e.value switched_on
