-- The characters of a ladder are those that they are said to be, in UTF-8.
use Rattle.std.proofs.Common.{◌≡◌, codes, refl}
use Rattle.std.specs.Prelude.{encode_utf8_all}
use lib.Utf8.{encode}
use Rattle.ladders.specs.Text.{dash, bar, branch_to_encoder, branch_to_server, cross, head_to_encoder, head_to_server}

is_dash : encode_utf8_all (codes "─") ≡ dash
unfolding encode
is_dash = refl

is_bar : encode_utf8_all (codes "│") ≡ bar
unfolding encode
is_bar = refl

is_branch : encode_utf8_all (codes "┣") ≡ branch_to_encoder
unfolding encode
is_branch = refl

is_other_branch : encode_utf8_all (codes "┫") ≡ branch_to_server
unfolding encode
is_other_branch = refl

is_cross : encode_utf8_all (codes "╳") ≡ cross
unfolding encode
is_cross = refl

is_head : encode_utf8_all (codes "▶") ≡ head_to_encoder
unfolding encode
is_head = refl

is_other_head : encode_utf8_all (codes "◀") ≡ head_to_server
unfolding encode
is_other_head = refl
