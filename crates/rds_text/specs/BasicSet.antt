-- The basic character set of RDS: which character each byte of a name or of a RadioText stands for. Characters are
-- their Unicode numbers. Source: IEC 62106, basic character set.
use Rattle.std.specs.Prelude.{◌≡◌, ◌<◌, ℕ, ◌-◌, ◌==◌, ◌&&◌, nat_le, List, [], ◌∷◌, ◌++◌, Option, Some, None}
use Rattle.std.specs.Prelude.{if◌then◌else◌, slice_get}

-- 80 to 8F: á à é è í ì ó ò ú ù Ñ Ç Ş ß ¡ Ĳ
abbrev pub row_80 : List ℕ
row_80 =
    0x00E1 ∷ 0x00E0 ∷ 0x00E9 ∷ 0x00E8 ∷ 0x00ED ∷ 0x00EC ∷ 0x00F3 ∷ 0x00F2 ∷
    0x00FA ∷ 0x00F9 ∷ 0x00D1 ∷ 0x00C7 ∷ 0x015E ∷ 0x00DF ∷ 0x00A1 ∷ 0x0132 ∷ []

-- 90 to 9F: â ä ê ë î ï ô ö û ü ñ ç ş ǧ ı ĳ
abbrev pub row_90 : List ℕ
row_90 =
    0x00E2 ∷ 0x00E4 ∷ 0x00EA ∷ 0x00EB ∷ 0x00EE ∷ 0x00EF ∷ 0x00F4 ∷ 0x00F6 ∷
    0x00FB ∷ 0x00FC ∷ 0x00F1 ∷ 0x00E7 ∷ 0x015F ∷ 0x01E7 ∷ 0x0131 ∷ 0x0133 ∷ []

-- A0 to AF: ª α © ‰ Ǧ ě ň ő π € £ $ ← ↑ → ↓
abbrev pub row_a0 : List ℕ
row_a0 =
    0x00AA ∷ 0x03B1 ∷ 0x00A9 ∷ 0x2030 ∷ 0x01E6 ∷ 0x011B ∷ 0x0148 ∷ 0x0151 ∷
    0x03C0 ∷ 0x20AC ∷ 0x00A3 ∷ 0x0024 ∷ 0x2190 ∷ 0x2191 ∷ 0x2192 ∷ 0x2193 ∷ []

-- B0 to BF: º ¹ ² ³ ± İ ń ű µ ¿ ÷ ° ¼ ½ ¾ §
abbrev pub row_b0 : List ℕ
row_b0 =
    0x00BA ∷ 0x00B9 ∷ 0x00B2 ∷ 0x00B3 ∷ 0x00B1 ∷ 0x0130 ∷ 0x0144 ∷ 0x0171 ∷
    0x00B5 ∷ 0x00BF ∷ 0x00F7 ∷ 0x00B0 ∷ 0x00BC ∷ 0x00BD ∷ 0x00BE ∷ 0x00A7 ∷ []

-- C0 to CF: Á À É È Í Ì Ó Ò Ú Ù Ř Č Š Ž Ð Ŀ
abbrev pub row_c0 : List ℕ
row_c0 =
    0x00C1 ∷ 0x00C0 ∷ 0x00C9 ∷ 0x00C8 ∷ 0x00CD ∷ 0x00CC ∷ 0x00D3 ∷ 0x00D2 ∷
    0x00DA ∷ 0x00D9 ∷ 0x0158 ∷ 0x010C ∷ 0x0160 ∷ 0x017D ∷ 0x00D0 ∷ 0x013F ∷ []

-- D0 to DF: Â Ä Ê Ë Î Ï Ô Ö Û Ü ř č š ž đ ŀ
abbrev pub row_d0 : List ℕ
row_d0 =
    0x00C2 ∷ 0x00C4 ∷ 0x00CA ∷ 0x00CB ∷ 0x00CE ∷ 0x00CF ∷ 0x00D4 ∷ 0x00D6 ∷
    0x00DB ∷ 0x00DC ∷ 0x0159 ∷ 0x010D ∷ 0x0161 ∷ 0x017E ∷ 0x0111 ∷ 0x0140 ∷ []

-- E0 to EF: Ã Å Æ Œ ŷ Ý Õ Ø Þ Ŋ Ŕ Ć Ś Ź Ŧ ð
abbrev pub row_e0 : List ℕ
row_e0 =
    0x00C3 ∷ 0x00C5 ∷ 0x00C6 ∷ 0x0152 ∷ 0x0177 ∷ 0x00DD ∷ 0x00D5 ∷ 0x00D8 ∷
    0x00DE ∷ 0x014A ∷ 0x0154 ∷ 0x0106 ∷ 0x015A ∷ 0x0179 ∷ 0x0166 ∷ 0x00F0 ∷ []

-- F0 to FE: ã å æ œ ŵ ý õ ø þ ŋ ŕ ć ś ź ŧ
abbrev pub row_f0 : List ℕ
row_f0 =
    0x00E3 ∷ 0x00E5 ∷ 0x00E6 ∷ 0x0153 ∷ 0x0175 ∷ 0x00FD ∷ 0x00F5 ∷ 0x00F8 ∷
    0x00FE ∷ 0x014B ∷ 0x0155 ∷ 0x0107 ∷ 0x015B ∷ 0x017A ∷ 0x0167 ∷ []

-- The characters of the bytes from 80 to FE, in order.
unfoldable pub upper : List ℕ
upper = row_80 ++ row_90 ++ row_a0 ++ row_b0 ++ row_c0 ++ row_d0 ++ row_e0 ++ row_f0

-- The character that a byte stands for. From 20 to 7E they are ASCII's, but for four: the currency sign, the horizontal
-- bar, the double vertical line and the overline. 00 to 1F, 7F and FF stand for none.
unfoldable pub character_of : ℕ → Option ℕ
character_of byte =
    if byte == 0x24 then Some 0xA4
    else if byte == 0x5E then Some 0x2015
    else if byte == 0x60 then Some 0x2016
    else if byte == 0x7E then Some 0x203E
    else if nat_le 0x20 byte && nat_le byte 0x7E then Some byte
    else if nat_le 0x80 byte then slice_get upper (byte - 0x80)
    else None

-- Law: no character stands in the set twice.
abbrev pub IsOnce : Type 0
IsOnce = (a b character : ℕ) → character_of a ≡ Some character → character_of b ≡ Some character → a ≡ b

-- Law: each character of the set is below Unicode's surrogates.
abbrev pub IsBelowSurrogates : Type 0
IsBelowSurrogates = (byte character : ℕ) → character_of byte ≡ Some character → character < 0xD800
