-- Where a carousel stands.
use Rattle.std.specs.Prelude.{ℕ, Bool, false, List, [], Option, Some, None, unwrap_or, replicate, refl}
use Rattle.std.specs.Coded.{Coded, code_by, coded×, coded_ℕ, coded_bool, coded_list, coded_option}

-- `name` and `text` are what goes out, and the segments those that come next of each; `is_other` says that the name's
-- turn is over. The text is at this place of the service's texts, so many passes of it are over, and it goes out under
-- this A/B flag. `blanks` says, behind a start, that the first text is still to come, and how many groups of an empty
-- one go out before it. (profile)
pub record Carousel : Type 0 where
  pub name : List ℕ
  pub name_segment : ℕ
  pub is_other : Bool
  pub text : List ℕ
  pub flag : Bool
  pub place : ℕ
  pub passes : ℕ
  pub text_segment : ℕ
  pub blanks : Option ℕ

-- A carousel that has sent nothing.
abbrev pub switched_on : Carousel
switched_on = record {
  name = replicate 8 0x00;
  name_segment = 0;
  is_other = false;
  text = [];
  flag = false;
  place = 0;
  passes = 0;
  text_segment = 0;
  blanks = None;
}

-- How many groups of an empty text a start sends before its first text: a fade of a second does not take them all.
-- (profile)
abbrev pub blanks_of_start : ℕ
blanks_of_start = 8

-- A carousel at the start of an encoder that may have been on the air before, under either flag.
abbrev pub restarted : Carousel
restarted = record switched_on { blanks = Some blanks_of_start }

-- How many of them are left.
abbrev pub blanks_left : Carousel → ℕ
blanks_left c = unwrap_or c.blanks 0

-- Carousels are the same where their nine parts are (for the model).
abbrev pub coded_carousel : Coded Carousel
coded_carousel =
    code_by (List ℕ × (ℕ × (Bool × (List ℕ × (Bool × (ℕ × (ℕ × (ℕ × Option ℕ))))))))
    (coded× (coded_list coded_ℕ) (coded× coded_ℕ (coded× coded_bool (coded× (coded_list coded_ℕ)
    (coded× coded_bool (coded× coded_ℕ (coded× coded_ℕ (coded× coded_ℕ (coded_option coded_ℕ)))))))))
    (λ c. (
      c.name,
      (
        c.name_segment,
        (c.is_other, (c.text, (c.flag, (c.place, (c.passes, (c.text_segment, c.blanks)))))),
      ),
    ))
    (λ p. record {
      name = p.0;
      name_segment = p.1.0;
      is_other = p.1.1.0;
      text = p.1.1.1.0;
      flag = p.1.1.1.1.0;
      place = p.1.1.1.1.1.0;
      passes = p.1.1.1.1.1.1.0;
      text_segment = p.1.1.1.1.1.1.1.0;
      blanks = p.1.1.1.1.1.1.1.1;
    }) (λ _. refl)
