-- Texts of bits that are heard one after another.
use Rattle.std.proofs.Common.{◌≡◌, ℕ, Bool, List, [], ◌∷◌, ◌++◌, Option, refl, sym, ap, subst, ◌∙◌, append_assoc}
use Rattle.std.proofs.Common.{append-nil, inl, inr}
use Rattle.uecp_text.specs.declared.run_fault.RunFault.{RunFault}
use Rattle.uecp_text.specs.declared.run_fault.RunFault.TheVariants as run
use Rattle.uecp_text.specs.Written.{Begins}
use Rattle.uecp_text.proofs.Public.{appends_nothing, appends_then, all_begun, begun_on}
use Rattle.rds_groups.specs.declared.heard.HeardGroup.{HeardGroup}
use Rattle.rds_groups.specs.Shown.{Receiver, hears}
use Rattle.rds_groups.specs.Text.{character_step}
use Rattle.rds_groups.specs.SynchroniserLaws.{found_in_text, after_text}
use Rattle.rds_groups.specs.declared.synchroniser.Synchroniser.{Synchroniser}
use Rattle.rds_groups.proofs.Public.{texts_add_up}
use Rattle.commands.specs.declared.receive_options.ShownForm.{ShownForm}
use Rattle.receive_command.specs.Shown.{shown_by}
use Rattle.receive_command.specs.Told.{IsTold}
use Rattle.receive_command.specs.Bits.{heard_all, AreTold, BitStanding, HearsText, FailsInText}
use Rattle.receive_command.specs.View.{FailsToTell}

heard_more : (groups others : List HeardGroup) (r : Receiver)
    → heard_all (groups ++ others) r ≡ heard_all others (heard_all groups r)
heard_more [] others r = refl
heard_more (g ∷ groups) others r = heard_more groups others (hears g r)

after_more : (one other : List ℕ) (s : Synchroniser) → after_text (one ++ other) s ≡ after_text other (after_text one s)
after_more [] other s = refl
after_more (character ∷ one) other s = after_more one other (character_step character s).0

-- groups, and then others
told_more : (form : ShownForm) (timed : Bool) (r : Receiver) (groups others : List HeardGroup) (told more : List ℕ)
    → AreTold form timed r groups told → AreTold form timed (heard_all groups r) others more
    → AreTold form timed r (groups ++ others) (told ++ more)
told_more form timed r [] others told more none later =
    subst (λ l. AreTold form timed r others (l ++ more)) (sym none) later
told_more form timed r (g ∷ groups) others told more (now, rest, is, same, left) later = (
  now,
  rest ++ more,
  is,
  ap (λ l. l ++ more) same ∙ append_assoc now rest more,
  told_more form timed (hears g r) groups others rest more left later,
)

pub hears_nothing : (form : ShownForm) (timed : Bool) (x : BitStanding) → HearsText form timed [] x x
hears_nothing form timed x = record {
  told = [];
  are_told = refl;
  written = appends_nothing x.held;
  place = refl;
  heard = refl;
}

module _ (form : ShownForm) (timed : Bool) (one other : List ℕ) (x y : BitStanding)
    (first : HearsText form timed one x y) where
  abbrev groups : List HeardGroup
  groups = found_in_text one x.place

  abbrev others : List HeardGroup
  others = found_in_text other (after_text one x.place)

  -- what was to be told from there on is told behind the first
  from_first : (gs : List HeardGroup) (told : List ℕ) → AreTold form timed y.heard gs told
      → AreTold form timed (heard_all groups x.heard) gs told
  from_first gs told are = subst (λ r. AreTold form timed r gs told) first.heard are

  -- one text, and then another
  pub hears_more : (z : BitStanding) → HearsText form timed other y z → HearsText form timed (one ++ other) x z
  hears_more z then = record {
    told = first.told ++ then.told;
    are_told = subst (λ gs. AreTold form timed x.heard gs (first.told ++ then.told))
        (sym (texts_add_up one other x.place))
        (told_more form timed x.heard groups others first.told then.told first.are_told
        (from_first others then.told
        (subst (λ p. AreTold form timed y.heard (found_in_text other p) then.told) first.place then.are_told)));
    written = appends_then x.held y.held z.held first.told then.told first.written then.written;
    place = then.place ∙ ap (after_text other) first.place ∙ sym (after_more one other x.place);
    heard = then.heard ∙ ap (λ p. heard_all (found_in_text other p) y.heard) first.place
        ∙ ap (heard_all others) first.heard ∙ sym (heard_more groups others x.heard)
        ∙ ap (λ gs. heard_all gs x.heard) (sym (texts_add_up one other x.place));
  }

  -- one text, and then one in which telling failed
  pub fails_more : (held' : Option (List ℕ)) (fault : RunFault) → FailsInText form timed other y held' fault
      → FailsInText form timed (one ++ other) x held' fault
  fails_more held' fault fails = record {
    heard = groups ++ fails.heard;
    others = fails.others;
    groups = texts_add_up one other x.place
        ∙ ap (λ p. groups ++ found_in_text other p) (sym first.place)
        ∙ ap (λ gs. groups ++ gs) fails.groups
        ∙ sym (append_assoc groups fails.heard fails.others);
    told = first.told ++ fails.told;
    are_told = told_more form timed x.heard groups fails.heard first.told fails.told first.are_told
        (from_first fails.heard fails.told fails.are_told);
    begun = begun_on x.held y.held held' first.told fails.told (first.told ++ fails.told) refl first.written
        fails.begun;
    for_this = fails.for_this;
  }

-- where telling failed, more was to come
pub fails_still : (form : ShownForm) (timed : Bool) (one other : List ℕ) (x : BitStanding) (held' : Option (List ℕ))
    (fault : RunFault) → FailsInText form timed one x held' fault → FailsInText form timed (one ++ other) x held' fault
fails_still form timed one other x held' fault fails = record {
  heard = fails.heard;
  others = fails.others ++ found_in_text other (after_text one x.place);
  groups = texts_add_up one other x.place
      ∙ ap (λ gs. gs ++ found_in_text other (after_text one x.place)) fails.groups
      ∙ append_assoc fails.heard fails.others (found_in_text other (after_text one x.place));
  told = fails.told;
  are_told = fails.are_told;
  begun = fails.begun;
  for_this = fails.for_this;
}

-- a group was found with this character, and telling what it changed failed
module _ (form : ShownForm) (timed : Bool) (character : ℕ) (x : BitStanding) (g : HeardGroup) (r : Receiver)
    (held' : Option (List ℕ)) (found : found_in_text (character ∷ []) x.place ≡ g ∷ [])
    (same : r ≡ hears g x.heard) where
  pub fails_for_group : (fault : RunFault) → FailsToTell form timed (shown_by x.heard) (shown_by r) x.held held' fault
      → FailsInText form timed (character ∷ []) x held' fault
  fails_for_group run.Writing (told, is_told, begun) = record {
    heard = g ∷ [];
    others = [];
    groups = found;
    told = told;
    are_told = (
      told,
      [],
      subst (λ r. IsTold form timed (shown_by x.heard) (shown_by r) told) same is_told,
      sym (append-nil told),
      refl,
    );
    begun = begun;
    for_this = inr refl;
  }
  fails_for_group run.OutOfMemory stays = record {
    heard = [];
    others = g ∷ [];
    groups = found;
    told = [];
    are_told = refl;
    begun = subst (λ h. Begins x.held h []) (sym stays) (all_begun x.held x.held [] (appends_nothing x.held));
    for_this = inl refl;
  }
  fails_for_group fault fails = absurd fails
