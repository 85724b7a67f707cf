-- What the code's tokens hold.
use Rattle.std.specs.Prelude.{List, map}
use Rattle.phrase_tokens.specs.declared.token.Token.{Token as Held}
use Rattle.phrase_tokens.specs.declared.token.Token.TheVariants as held
use Rattle.phrase_tokens.specs.Tokens.{Token, Word, Quoted, Semicolon}

-- What a token holds.
abbrev pub token_of : Held → Token
token_of (held.Word characters) = Word characters.items
token_of (held.Quoted bytes) = Quoted bytes.items
token_of held.Semicolon = Semicolon

-- What tokens hold, in order.
abbrev pub tokens_of : List Held → List Token
tokens_of tokens = map token_of tokens
