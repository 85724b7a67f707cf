-- A ladder in the characters of boxes (profile). Each row has the post of the server, 36 columns, the post of the
-- encoder, and what is said.
use Rattle.std.specs.Prelude.{ℕ, zero, suc, ◌-◌, List, [], ◌∷◌, ◌++◌, length, codes, flat_map}
use Rattle.ladders.specs.declared.row.Mark.{Mark}
use Rattle.ladders.specs.declared.row.Mark.TheVariants as mark
use Rattle.ladders.specs.declared.row.Row.{Row}
use Rattle.ladders.specs.Words.{label_words, said_line}

-- ---- the characters, as their bytes in UTF-8
abbrev pub dash : List ℕ
dash = 0xE2 ∷ 0x94 ∷ 0x80 ∷ []  -- ─

abbrev pub bar : List ℕ
bar = 0xE2 ∷ 0x94 ∷ 0x82 ∷ []  -- │

abbrev pub branch_to_encoder : List ℕ
branch_to_encoder = 0xE2 ∷ 0x94 ∷ 0xA3 ∷ []  -- ┣

abbrev pub branch_to_server : List ℕ
branch_to_server = 0xE2 ∷ 0x94 ∷ 0xAB ∷ []  -- ┫

abbrev pub cross : List ℕ
cross = 0xE2 ∷ 0x95 ∷ 0xB3 ∷ []  -- ╳

abbrev pub head_to_encoder : List ℕ
head_to_encoder = 0xE2 ∷ 0x96 ∷ 0xB6 ∷ []  -- ▶

abbrev pub head_to_server : List ℕ
head_to_server = 0xE2 ∷ 0x97 ∷ 0x80 ∷ []  -- ◀

-- ---- a ladder
-- So many of the same.
unfoldable pub repeated : ℕ → List ℕ → List ℕ
repeated zero part = []
repeated (suc count) part = part ++ repeated count part

abbrev pub spaces : ℕ → List ℕ
spaces count = repeated count (codes " ")

abbrev pub dashes : ℕ → List ℕ
dashes count = repeated count dash

-- The post of the server: a branch where something is at the server, and a cross where what was open there is lost.
abbrev pub server_post : Mark → List ℕ
server_post mark.AtServer = branch_to_encoder
server_post mark.LostAtServer = cross
server_post _ = bar

-- That of the encoder.
abbrev pub encoder_post : Mark → List ℕ
encoder_post mark.AtEncoder = branch_to_server
encoder_post mark.LostAtEncoder = cross
encoder_post _ = bar

-- What stands between the posts: an arrow with its label, one that ends in a cross, or a label alone.
abbrev pub between : Mark → (label : List ℕ) → List ℕ
between mark.ToEncoder label =
    (dash ++ (dash ++ codes " ")) ++ (label ++ (codes " " ++ (dashes (31 - length label) ++ head_to_encoder)))
between mark.ToServer label =
    (head_to_server ++ (dash ++ codes " ")) ++ (label ++ (codes " " ++ dashes (32 - length label)))
between mark.LostToEncoder label =
    (dash ++ (dash ++ codes " ")) ++ (label ++ ((codes " " ++ (dash ++ (dash ++ cross))) ++ spaces (29 - length label)))
between mark.LostToServer label =
    spaces (29 - length label) ++ ((cross ++ (dash ++ (dash ++ codes " "))) ++ (label ++ (codes " " ++ (dash ++ dash))))
between _ label = codes "   " ++ (label ++ spaces (33 - length label))

-- The line of a row.
abbrev pub text_row : Row → List ℕ
text_row row = codes "  " ++ (server_post row.mark ++ (between row.mark (label_words row.label)
    ++ (encoder_post row.mark ++ (codes "  " ++ said_line row.said))))

-- The names of the ends above their posts.
abbrev pub text_head : List ℕ
text_head = codes "server                              encoder\n"

-- The rows below the names of the ends.
abbrev pub text_ladder : List Row → List ℕ
text_ladder rows = text_head ++ flat_map text_row rows
