-- How the parts of what is written come together.
use Rattle.std.proofs.Common.{◌≡◌, ℕ, List, [], ◌∷◌, ◌++◌, refl, sym, ap, ◌∙◌, append-nil, append_assoc, subst}
use Rattle.std.proofs.lemmas.Str.{encodes-append}
use Rattle.std.specs.Prelude.{encode_utf8_all, flat_map}
use Rattle.std.specs.Char.{encode_utf8}
use Rattle.rds_text.specs.Quoted.{written}
use Rattle.uecp_text.specs.Written.{Kept, Adds}
use Rattle.uecp_text.proofs.Public.{Leads, adds_then, leads_on}
use Rattle.phrase_tokens.specs.Tokens.{Token, Word, Quoted, Semicolon, written_token, written_behind, written_tokens}

-- Tokens behind others are written one after another.
pub behind_split : (t : Token) (ts : List Token)
    → written_behind (t ∷ ts) ≡ written_behind (t ∷ []) ++ written_behind ts
behind_split (Word w) ts = ap (λ l. 0x20 ∷ (l ++ written_behind ts)) (sym (append-nil (written_token (Word w))))
behind_split (Quoted bytes) ts =
    ap (λ l. 0x20 ∷ (l ++ written_behind ts)) (sym (append-nil (written_token (Quoted bytes))))
behind_split Semicolon ts = refl

pub behind_more : (a b c : Kept) (t : Token) (ts whole : List Token)
    → Leads a b (encode_utf8_all (written_behind (t ∷ ts))) (encode_utf8_all (written_behind whole))
    → Adds b c (encode_utf8_all (written_behind (t ∷ [])))
    → Leads a c (encode_utf8_all (written_behind ts)) (encode_utf8_all (written_behind whole))
behind_more a b c t ts whole leads adds =
    leads_on a b c (encode_utf8_all (written_behind (t ∷ []))) (encode_utf8_all (written_behind (t ∷ ts)))
    (encode_utf8_all (written_behind ts)) (encode_utf8_all (written_behind whole)) leads
    (ap encode_utf8_all (behind_split t ts) ∙ encodes-append (written_behind (t ∷ [])) (written_behind ts)) adds

pub tokens_more : (a b c : Kept) (t : Token) (ts : List Token) → Adds a b (encode_utf8_all (written_token t))
    → Adds b c (encode_utf8_all (written_behind ts)) → Adds a c (encode_utf8_all (written_tokens (t ∷ ts)))
tokens_more a b c t ts p q =
    subst (λ l. Adds a c l) (sym (encodes-append (written_token t) (written_behind ts)))
    (adds_then a b c (encode_utf8_all (written_token t)) (encode_utf8_all (written_behind ts)) p q)

pub quoted_whole : (a b c d : Kept) (bytes : List ℕ) → Adds a b (encode_utf8 0x22)
    → Adds b c (encode_utf8_all (flat_map written bytes)) → Adds c d (encode_utf8 0x22)
    → Adds a d (encode_utf8_all (written_token (Quoted bytes)))
quoted_whole a b c d bytes p q r =
    let quote = encode_utf8 0x22 in
    let inner = encode_utf8_all (flat_map written bytes) in
    let whole : (quote ++ inner) ++ quote ≡ encode_utf8_all (written_token (Quoted bytes)) =
    append_assoc quote inner quote
    ∙ ap (λ l. quote ++ l) (ap (λ l. inner ++ l) (sym (append-nil quote))
    ∙ sym (encodes-append (flat_map written bytes) (0x22 ∷ []))) in
    subst (λ l. Adds a d l) whole
    (adds_then a c d (quote ++ inner) quote (adds_then a b c quote inner p q) r)
