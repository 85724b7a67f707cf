-- By which end it is known what is on the air of a control line.
use Rattle.std.proofs.Common.{◌≡◌, ◌≢◌, ℕ, Bool, true, false, cond, ◌||◌, List, [], ◌∷◌, ◌++◌, refl, ◌∙◌, ap}
use Rattle.std.specs.Prelude.{All, codes}
use Rattle.std.proofs.lemmas.List.Elements.{All-head, All-tail}
use Rattle.serde_json.specs.Data.{Data}
use Rattle.page.specs.Counts.{is_kind}
use Rattle.page.specs.Shown.{is_shown, is_stored}
use Rattle.page.specs.Air.{Air, no_air, air_after, after_message}
use Rattle.page.specs.Answered.{is_of_encoder, is_acknowledged, is_in_doubt}
use Rattle.page.specs.ControlLine.{Arrived, Line, new_line, air_shown, line_after, line_behind}
use Rattle.page.specs.CardLaws.{of_encoder, acknowledged, behind_messages}

-- what the encoder's end does not tell changes nothing of what that tells
none_holds : {X : Type 0} (a b c d e f g : Bool) (v w x y z s : X) → a || b || c || d || e || f || g ≡ false
    → cond a v (cond b w (cond c x (cond d y (cond (e || f) z s)))) ≡ s
none_holds true b c d e f g v w x y z s h = absurd (cc h)
none_holds false true c d e f g v w x y z s h = absurd (cc h)
none_holds false false true d e f g v w x y z s h = absurd (cc h)
none_holds false false false true e f g v w x y z s h = absurd (cc h)
none_holds false false false false true f g v w x y z s h = absurd (cc h)
none_holds false false false false false true g v w x y z s h = absurd (cc h)
none_holds false false false false false false g v w x y z s h = refl

unheard : (d : Data) (s : Air) → is_of_encoder d ≡ false → air_after d s ≡ s
unheard d s h =
    none_holds (is_kind (codes "frame") d) (is_kind (codes "answered") d) (is_kind (codes "connection") d)
    (is_kind (codes "store") d) (is_shown d) (is_stored d) (is_kind (codes "reply") d) _ _ _ _ _ s h

tells_first : (is : Bool) (d : Arrived) (ds : List Arrived) (l m : Line) → is_of_encoder d.object ≡ is → l.air ≡ m.air
    → ((l m : Line) → l.air ≡ m.air → (line_behind ds l).air ≡ (line_behind (of_encoder ds) m).air)
    → (line_behind ds (line_after d l)).air ≡ (line_behind (cond is (d ∷ of_encoder ds) (of_encoder ds)) m).air
tells_first true d ds l m is h rest = rest (line_after d l) (line_after d m) (ap (air_after d.object) h)
tells_first false d ds l m is h rest = rest (line_after d l) m (unheard d.object l.air is ∙ h)

tells : (ds : List Arrived) (l m : Line) → l.air ≡ m.air
    → (line_behind ds l).air ≡ (line_behind (of_encoder ds) m).air
tells [] l m h = h
tells (d ∷ ds) l m h = tells_first (is_of_encoder d.object) d ds l m refl h (tells ds)

-- whether it told anything
stays : (b : Bool) → b || true ≡ true
stays true = refl
stays false = refl

has_it : (ds : List Arrived) (l : Line) → l.has_encoder ≡ true → (line_behind ds l).has_encoder ≡ true
has_it [] l h = h
has_it (d ∷ ds) l h =
    has_it ds (line_after d l) (ap (λ b. is_of_encoder d.object || b) h ∙ stays (is_of_encoder d.object))

has_first : (is : Bool) (d : Arrived) (ds : List Arrived) (l : Line) → is_of_encoder d.object ≡ is
    → cond is (d ∷ of_encoder ds) (of_encoder ds) ≢ []
    → ((l : Line) → of_encoder ds ≢ [] → (line_behind ds l).has_encoder ≡ true)
    → (line_behind ds (line_after d l)).has_encoder ≡ true
has_first true d ds l is h rest = has_it ds (line_after d l) (ap (λ b. b || l.has_encoder) is)
has_first false d ds l is h rest = rest (line_after d l) h

has_one : (ds : List Arrived) (l : Line) → of_encoder ds ≢ [] → (line_behind ds l).has_encoder ≡ true
has_one [] l h = absurd (h refl)
has_one (d ∷ ds) l h = has_first (is_of_encoder d.object) d ds l refl h (has_one ds)

none_first : (is : Bool) (d : Arrived) (ds : List Arrived) (l : Line) → is_of_encoder d.object ≡ is
    → l.has_encoder ≡ false → cond is (d ∷ of_encoder ds) (of_encoder ds) ≡ []
    → ((l : Line) → l.has_encoder ≡ false → of_encoder ds ≡ [] → (line_behind ds l).has_encoder ≡ false)
    → (line_behind ds (line_after d l)).has_encoder ≡ false
none_first true d ds l is nope h rest = absurd (cc h)
none_first false d ds l is nope h rest = rest (line_after d l) (ap (λ b. b || l.has_encoder) is ∙ nope) h

has_none : (ds : List Arrived) (l : Line) → l.has_encoder ≡ false → of_encoder ds ≡ []
    → (line_behind ds l).has_encoder ≡ false
has_none [] l nope h = nope
has_none (d ∷ ds) l nope h = none_first (is_of_encoder d.object) d ds l refl nope h (has_none ds)

pub one_end : (ds : List Arrived) (name : List ℕ) → let l = line_behind ds (new_line name) in
    (of_encoder ds ≢ [] → air_shown l ≡ (line_behind (of_encoder ds) (new_line name)).air)
    × (of_encoder ds ≡ [] → air_shown l ≡ l.answered)
one_end ds name =
    let l = line_behind ds (new_line name) in (
      λ some. ap (λ b. cond b l.air l.answered) (has_one ds (new_line name) some)
          ∙ tells ds (new_line name) (new_line name) refl,
      λ none. ap (λ b. cond b l.air l.answered) (has_none ds (new_line name) refl none),
    )

-- what was acknowledged, behind where it was in doubt last what the encoder has
answered_first : (is : Bool) (d : Arrived) (ds : List Arrived) (l : Line) (s : Air) → is_acknowledged d.object ≡ is
    → is_in_doubt d.object ≡ false → l.answered ≡ s
    → ((l : Line) (s : Air) → l.answered ≡ s → (line_behind ds l).answered ≡ behind_messages (acknowledged ds) s)
    → (line_behind ds (line_after d l)).answered
    ≡ behind_messages (cond is (d ∷ acknowledged ds) (acknowledged ds)) s
answered_first true d ds l s is sure h rest =
    rest (line_after d l) (after_message d.object s)
    (ap (λ b. cond b no_air (cond (is_acknowledged d.object) (after_message d.object l.answered) l.answered)) sure
    ∙ ap (λ b. cond b (after_message d.object l.answered) l.answered) is
    ∙ ap (after_message d.object) h)
answered_first false d ds l s is sure h rest =
    rest (line_after d l) s
    (ap (λ b. cond b no_air (cond (is_acknowledged d.object) (after_message d.object l.answered) l.answered)) sure
    ∙ ap (λ b. cond b (after_message d.object l.answered) l.answered) is ∙ h)

answered_on : (ds : List Arrived) (l : Line) (s : Air) → All (λ d. is_in_doubt d.object ≡ false) ds → l.answered ≡ s
    → (line_behind ds l).answered ≡ behind_messages (acknowledged ds) s
answered_on [] l s sure h = h
answered_on (d ∷ ds) l s sure h =
    answered_first (is_acknowledged d.object) d ds l s refl (All-head (λ e. is_in_doubt e.object ≡ false) d ds sure) h
    (λ m t. answered_on ds m t (All-tail (λ e. is_in_doubt e.object ≡ false) d ds sure))

in_doubt : (before : List Arrived) (d : Arrived) (ds : List Arrived) (l : Line)
    → All (λ d. is_in_doubt d.object ≡ false) ds
    → is_in_doubt d.object ≡ true → (line_behind (before ++ d ∷ ds) l).answered
    ≡ behind_messages (acknowledged ds) no_air
in_doubt [] d ds l sure h =
    answered_on ds (line_after d l) no_air sure
    (ap (λ b. cond b no_air (cond (is_acknowledged d.object) (after_message d.object l.answered) l.answered)) h)
in_doubt (e ∷ before) d ds l sure h = in_doubt before d ds (line_after e l) sure h

pub as_answered : (ds : List Arrived) → All (λ d. is_in_doubt d.object ≡ false) ds
    → ((name : List ℕ) → (line_behind ds (new_line name)).answered ≡ behind_messages (acknowledged ds) no_air)
    × ((before : List Arrived) (d : Arrived) (l : Line) → is_in_doubt d.object ≡ true
    → (line_behind (before ++ d ∷ ds) l).answered ≡ behind_messages (acknowledged ds) no_air)
as_answered ds sure = (
  λ name. answered_on ds (new_line name) no_air sure refl,
  λ before d l h. in_doubt before d ds l sure h,
)
