-- Words with no fault name one of the program's commands.
use Rattle.std.proofs.Common.{◌≡◌, ◌⊎◌, ℕ, Bool, true, false, not, ◌&&◌, ◌||◌, cond, List, [], ◌∷◌, refl, ap, sym}
use Rattle.std.proofs.Common.{subst, inl, inr, codes, fold, get_or}
use Rattle.std.specs.Prelude.{Option, Some, None, find, is_some, option_map}
use Rattle.std.specs.Option.{option_map_or}
use Rattle.std.specs.Str.{bytes_eq}
use Rattle.std.proofs.lemmas.Slice.Eq.{bytes_eq-Decides}
use Rattle.clap.specs.Kinds.{Kinds, check_kinds, or_else}
use Rattle.clap.specs.Lexer.{long_of, short_of}
use Rattle.clap.specs.Walk.{Rule, Row, Text, Names, Held, Outcome, done, waits, plain, refused, Waiting, idle, option}
use Rattle.clap.specs.Walk.{positional, Step, next, trailing, subcommand, value, Walk, plain_word, after_flag}
use Rattle.clap.specs.Walk.{long_or_other, short_or_plain, subcommand_or_other, subcommand_met, word_met, to_positional}
use Rattle.clap.specs.Walk.{arg_by_index, after_step, walked_from, walked, walk_from, walk, nothing_held, finished}
use Rattle.clap.specs.Walk.{settled, answers_to, stop_after}
use Rattle.clap.specs.Simple.{Shape, argument_words, built, entered, help_shape, label_of, names_of, rows_at}
use Rattle.clap.specs.Simple.{subcommand_of}
use Rattle.clap.specs.Faults.{check_fault, defaults_fault, entered_fault, fault_of, settle_fault, step_fault}
use Rattle.clap.specs.Faults.{level_fault, other_fault, turn_fault, walk_fault, word_fault}
use Rattle.command_line.specs.declared.command_name.CommandName.{CommandName}
use Rattle.command_line.specs.declared.command_name.CommandName.TheVariants as command
use Rattle.command_line.specs.CommandLine.{command_word, uecp_app}

first_none : (a b : Kinds) → or_else a b ≡ [] → a ≡ []
first_none [] b e = refl
first_none (k ∷ ks) b e = e

then_none : (a b : Kinds) → or_else a b ≡ [] → b ≡ []
then_none [] b e = e
then_none (k ∷ ks) b e = cc

-- ---- a step to the subcommand `help`
abbrev helps : Step → Bool
helps (subcommand name) = bytes_eq name (codes "help")
helps _ = false

abbrev is_help : Option (Text × List Text) → Bool
is_help stop = option_map_or (λ p. bytes_eq p.0 (codes "help")) stop false

plain_helps : (c : List Rule) (waiting : Waiting) (word : Text) (h : Held)
    → helps (plain_word c waiting word h).1 ≡ false
plain_helps c (option id) word h = refl
plain_helps c idle word h = refl
plain_helps c positional word h = refl

after_helps : (c : List Rule) (waiting : Waiting) (word : Text) (h : Held) (o : Outcome)
    → helps (after_flag c waiting word h o).1 ≡ false
after_helps c waiting word h done = refl
after_helps c waiting word h (waits id) = refl
after_helps c waiting word h plain = plain_helps c waiting word h
after_helps c waiting word h refused = plain_helps c waiting word h

short_helps : (c : List Rule) (waiting : Waiting) (word : Text) (flags : Option Text) (h : Held)
    → helps (short_or_plain c waiting word flags h).1 ≡ false
short_helps c waiting word (Some flags) h = after_helps c waiting word _ _
short_helps c waiting word None h = plain_helps c waiting word h

long_helps : (c : List Rule) (waiting : Waiting) (word : Text) (p : Option (Text × Option Text)) (h : Held)
    → helps (long_or_other c waiting word p h).1 ≡ false
long_helps c waiting word (Some p) h = after_helps c waiting word _ _
long_helps c waiting word None h = short_helps c waiting word (short_of word) h

-- a word with no fault is no call for help
name_helps : (b d : Bool) (kinds : Kinds) (x : _) → d ≡ false → cond (b && not d) (x ∷ kinds) [] ≡ [] → b ≡ false
name_helps false d kinds x off e = refl
name_helps true true kinds x off e = cc
name_helps true false kinds x off e = cc

other_helps : (b : Bool) (c : List Rule) (waiting : Waiting) (position : ℕ) (word : Text) (h : Held)
    → helps (cond b (h, trailing position) (long_or_other c waiting word (long_of word) h)).1 ≡ false
other_helps true c waiting position word h = refl
other_helps false c waiting position word h = long_helps c waiting word (long_of word) h

sub_helps : (s : Shape) (name : Option Text) (waiting : Waiting) (position : ℕ) (word : Text) (h : Held)
    → s.disable_help_subcommand ≡ false → other_fault s name word h ≡ []
    → helps (subcommand_or_other s.rules name waiting position word h).1 ≡ false
sub_helps s (Some name) waiting position word h off e =
    name_helps (bytes_eq name (codes "help")) s.disable_help_subcommand _ _ off e
sub_helps s None waiting position word h off e =
    other_helps (bytes_eq word (45 ∷ 45 ∷ [])) s.rules waiting position word h

word_helps : (s : Shape) (names : Names) (t : Bool) (waiting : Waiting) (position : ℕ) (word : Text) (h : Held)
    → s.disable_help_subcommand ≡ false → word_fault s names t waiting word h ≡ []
    → helps (word_met s.rules names t waiting position word h).1 ≡ false
word_helps s names true waiting position word h off e = refl
word_helps s names false waiting position word h off e =
    sub_helps s (subcommand_met names waiting word) waiting position word h off e

-- ---- a walk with no fault
positional_stop : (c : List Rule) (a : Option Rule) (word : Text) (w : Walk) (h : Held) → is_help w.stopped ≡ false
    → is_help (to_positional c a word w h).stopped ≡ false
positional_stop c None word w h e = e
positional_stop c (Some a) word w h e = refl

step_stop : (c : List Rule) (word : Text) (w : Walk) (h : Held) (step : Step) → is_help w.stopped ≡ false
    → helps step ≡ false → is_help (after_step c word w h step).stopped ≡ false
step_stop c word w h (next waiting) e f = e
step_stop c word w h (trailing position) e f = e
step_stop c word w h (subcommand name) e f = f
step_stop c word w h value e f = positional_stop c (arg_by_index c w.position) word w h e

none_then : (o : Option (Text × List Text)) (k : Kinds) → o ≡ None → cond (is_some o) [] k ≡ [] → k ≡ []
none_then None k is e = e
none_then (Some p) k is e = cc

turn_stop : (s : Shape) (names : Names) (w : Walk) (word : Text) (o : Option (Text × List Text)) → w.stopped ≡ o
    → s.disable_help_subcommand ≡ false → is_help w.stopped ≡ false
    → turn_fault s names w word ≡ [] → is_help (walked_from s.rules names o w word).stopped ≡ false
turn_stop s names w word (Some p) is off e f = subst (λ o. is_help o ≡ false) is e
turn_stop s names w word None is off e f =
    let met = word_met s.rules names w.is_trailing w.waiting w.position word w.held in
    let first = word_fault s names w.is_trailing w.waiting word w.held in
    let second = step_fault s w.position met.0 met.1 in
    step_stop s.rules word w met.0 met.1 e (word_helps s names w.is_trailing w.waiting w.position word w.held off
    (first_none first second (none_then w.stopped (or_else first second) is f)))

walk_stop : (s : Shape) (names : Names) (words : List Text) (w : Walk) → s.disable_help_subcommand ≡ false
    → is_help w.stopped ≡ false
    → walk_fault s names w words ≡ [] → is_help (fold (walked s.rules names) w words).stopped ≡ false
unfolding walk_fault walked
walk_stop s names [] w off e f = e
walk_stop s names (word ∷ rest) w off e f =
    walk_stop s names rest (walked s.rules names w word) off
    (turn_stop s names w word w.stopped refl off e (first_none (turn_fault s names w word)
    (walk_fault s names (walked s.rules names w word) rest) f))
    (then_none (turn_fault s names w word) (walk_fault s names (walked s.rules names w word) rest) f)

-- ---- the program's commands
pick : {X : Type 0} (a1 a2 a3 a4 a5 a6 a7 a8 a9 a10 a11 a12 a13 a14 h s : X) (t1 t2 t3 t4 t5 t6 t7 t8 t9 t10 t11 t12
    t13 t14 end : Bool) → end ≡ false → cond t1 (Some a1) (cond t2 (Some a2) (cond t3 (Some a3) (cond t4 (Some a4)
    (cond t5 (Some a5) (cond t6 (Some a6) (cond t7 (Some a7) (cond t8 (Some a8) (cond t9 (Some a9) (cond t10 (Some
    a10) (cond t11 (Some a11) (cond t12 (Some a12) (cond t13 (Some a13) (cond t14 (Some a14) (cond end (Some h)
    None)))))))))))))) ≡ Some s → (s ≡ a1) ⊎ ((s ≡ a2) ⊎ ((s ≡ a3) ⊎ ((s ≡ a4) ⊎ ((s ≡ a5) ⊎ ((s ≡ a6) ⊎ ((s ≡ a7) ⊎
    ((s ≡ a8) ⊎ ((s ≡ a9) ⊎ ((s ≡ a10) ⊎ ((s ≡ a11) ⊎ ((s ≡ a12) ⊎ ((s ≡ a13) ⊎ (s ≡ a14)))))))))))))
pick a1 a2 a3 a4 a5 a6 a7 a8 a9 a10 a11 a12 a13 a14 h s true t2 t3 t4 t5 t6 t7 t8 t9 t10 t11 t12 t13 t14 end off is =
    inl cc
pick a1 a2 a3 a4 a5 a6 a7 a8 a9 a10 a11 a12 a13 a14 h s false true t3 t4 t5 t6 t7 t8 t9 t10 t11 t12 t13 t14 end off is
    =
    inr (inl cc)
pick a1 a2 a3 a4 a5 a6 a7 a8 a9 a10 a11 a12 a13 a14 h s false false true t4 t5 t6 t7 t8 t9 t10 t11 t12 t13 t14 end off
    is =
    inr (inr (inl cc))
pick a1 a2 a3 a4 a5 a6 a7 a8 a9 a10 a11 a12 a13 a14 h s false false false true t5 t6 t7 t8 t9 t10 t11 t12 t13 t14 end
    off is =
    inr (inr (inr (inl cc)))
pick a1 a2 a3 a4 a5 a6 a7 a8 a9 a10 a11 a12 a13 a14 h s false false false false true t6 t7 t8 t9 t10 t11 t12 t13 t14
    end off is =
    inr (inr (inr (inr (inl cc))))
pick a1 a2 a3 a4 a5 a6 a7 a8 a9 a10 a11 a12 a13 a14 h s false false false false false true t7 t8 t9 t10 t11 t12 t13
    t14 end off is =
    inr (inr (inr (inr (inr (inl cc)))))
pick a1 a2 a3 a4 a5 a6 a7 a8 a9 a10 a11 a12 a13 a14 h s false false false false false false true t8 t9 t10 t11 t12 t13
    t14 end off is =
    inr (inr (inr (inr (inr (inr (inl cc))))))
pick a1 a2 a3 a4 a5 a6 a7 a8 a9 a10 a11 a12 a13 a14 h s false false false false false false false true t9 t10 t11 t12
    t13 t14 end off is =
    inr (inr (inr (inr (inr (inr (inr (inl cc)))))))
pick a1 a2 a3 a4 a5 a6 a7 a8 a9 a10 a11 a12 a13 a14 h s false false false false false false false false true t10 t11
    t12 t13 t14 end off is =
    inr (inr (inr (inr (inr (inr (inr (inr (inl cc))))))))
pick a1 a2 a3 a4 a5 a6 a7 a8 a9 a10 a11 a12 a13 a14 h s false false false false false false false false false true t11
    t12 t13 t14 end off is =
    inr (inr (inr (inr (inr (inr (inr (inr (inr (inl cc)))))))))
pick a1 a2 a3 a4 a5 a6 a7 a8 a9 a10 a11 a12 a13 a14 h s false false false false false false false false false false
    true t12 t13 t14 end off is =
    inr (inr (inr (inr (inr (inr (inr (inr (inr (inr (inl cc))))))))))
pick a1 a2 a3 a4 a5 a6 a7 a8 a9 a10 a11 a12 a13 a14 h s false false false false false false false false false false
    false true t13 t14 end off is =
    inr (inr (inr (inr (inr (inr (inr (inr (inr (inr (inr (inl cc)))))))))))
pick a1 a2 a3 a4 a5 a6 a7 a8 a9 a10 a11 a12 a13 a14 h s false false false false false false false false false false
    false false true t14 end off is =
    inr (inr (inr (inr (inr (inr (inr (inr (inr (inr (inr (inr (inl cc))))))))))))
pick a1 a2 a3 a4 a5 a6 a7 a8 a9 a10 a11 a12 a13 a14 h s false false false false false false false false false false
    false false false true end off is =
    inr (inr (inr (inr (inr (inr (inr (inr (inr (inr (inr (inr (inr (cc)))))))))))))
pick a1 a2 a3 a4 a5 a6 a7 a8 a9 a10 a11 a12 a13 a14 h s false false false false false false false false false false
    false false false false true off is =
    cc
pick a1 a2 a3 a4 a5 a6 a7 a8 a9 a10 a11 a12 a13 a14 h s false false false false false false false false false false
    false false false false false off is =
    cc

not_help : (name : Text) → bytes_eq name (codes "help") ≡ false → bytes_eq (codes "help") name ≡ false
not_help name e = go (bytes_eq (codes "help") name) refl
  where
    go : (b : Bool) → bytes_eq (codes "help") name ≡ b → b ≡ false
    go false is = refl
    go true is =
        let same : codes "help" ≡ name = (bytes_eq-Decides (codes "help") name).0 is in
        let bad : bytes_eq (codes "help") (codes "help") ≡ false =
        subst (λ x. bytes_eq x (codes "help") ≡ false) (sym same) e in
        cc

pick_in : {X : Type 0} (test : X → Bool) (a1 a2 a3 a4 a5 a6 a7 a8 a9 a10 a11 a12 a13 a14 h s : X) → test h ≡ false →
    find test (a1 ∷ a2 ∷ a3 ∷ a4 ∷ a5 ∷ a6 ∷ a7 ∷ a8 ∷ a9 ∷ a10 ∷ a11 ∷ a12 ∷ a13 ∷ a14 ∷ h ∷ []) ≡ Some s → (s ≡ a1)
    ⊎ ((s ≡ a2) ⊎ ((s ≡ a3) ⊎ ((s ≡ a4) ⊎ ((s ≡ a5) ⊎ ((s ≡ a6) ⊎ ((s ≡ a7) ⊎ ((s ≡ a8) ⊎ ((s ≡ a9) ⊎ ((s ≡ a10) ⊎ ((s
    ≡ a11) ⊎ ((s ≡ a12) ⊎ ((s ≡ a13) ⊎ (s ≡ a14)))))))))))))
pick_in test a1 a2 a3 a4 a5 a6 a7 a8 a9 a10 a11 a12 a13 a14 h s off is = pick a1 a2 a3 a4 a5 a6 a7 a8 a9 a10 a11 a12
    a13 a14 h s (test a1) (test a2) (test a3) (test a4) (test a5) (test a6) (test a7) (test a8) (test a9) (test a10)
    (test a11) (test a12) (test a13) (test a14) (test h) off is

abbrev place : ℕ → Shape
place i = get_or (built uecp_app).subs i help_shape

-- the name is one of the fourteen
abbrev pub IsCommand : Text → Type 0
IsCommand name = (command : CommandName) × (name ≡ command_word command)

name_of : (s : Shape) → (s ≡ place 0) ⊎ ((s ≡ place 1) ⊎ ((s ≡ place 2) ⊎ ((s ≡ place 3) ⊎ ((s ≡ place 4) ⊎ ((s ≡
    place 5) ⊎ ((s ≡ place 6) ⊎ ((s ≡ place 7) ⊎ ((s ≡ place 8) ⊎ ((s ≡ place 9) ⊎ ((s ≡ place 10) ⊎ ((s ≡ place 11) ⊎
    ((s ≡ place 12) ⊎ (s ≡ place 13))))))))))))) → IsCommand s.name
name_of s h = elim h [
  | inl e ↦ (command.Answer, ap (λ (x : Shape). x.name) e)
  | inr (inl e) ↦ (command.Show, ap (λ (x : Shape). x.name) e)
  | inr (inr (inl e)) ↦ (command.Make, ap (λ (x : Shape). x.name) e)
  | inr (inr (inr (inl e))) ↦ (command.Line, ap (λ (x : Shape). x.name) e)
  | inr (inr (inr (inr (inl e)))) ↦ (command.Encoder, ap (λ (x : Shape). x.name) e)
  | inr (inr (inr (inr (inr (inl e))))) ↦ (command.Server, ap (λ (x : Shape). x.name) e)
  | inr (inr (inr (inr (inr (inr (inl e)))))) ↦ (command.Send, ap (λ (x : Shape). x.name) e)
  | inr (inr (inr (inr (inr (inr (inr (inl e))))))) ↦ (command.Watch, ap (λ (x : Shape). x.name) e)
  | inr (inr (inr (inr (inr (inr (inr (inr (inl e)))))))) ↦ (command.State, ap (λ (x : Shape). x.name) e)
  | inr (inr (inr (inr (inr (inr (inr (inr (inr (inl e))))))))) ↦ (command.Receive, ap (λ (x : Shape). x.name) e)
  | inr (inr (inr (inr (inr (inr (inr (inr (inr (inr (inl e)))))))))) ↦ (
    command.Conformance,
    ap (λ (x : Shape). x.name) e,
  )
  | inr (inr (inr (inr (inr (inr (inr (inr (inr (inr (inr (inl e))))))))))) ↦ (
    command.Page,
    ap (λ (x : Shape). x.name) e,
  )
  | inr (inr (inr (inr (inr (inr (inr (inr (inr (inr (inr (inr (inl e)))))))))))) ↦ (
    command.Quote,
    ap (λ (x : Shape). x.name) e,
  )
  | inr (inr (inr (inr (inr (inr (inr (inr (inr (inr (inr (inr (inr (e))))))))))))) ↦ (
    command.Phrases,
    ap (λ (x : Shape). x.name) e,
  )
]

entered_one : (stop : Option (Text × List Text)) → is_some (entered (built uecp_app) stop) ≡ true → is_help stop ≡ false
    → (n : Text × List Row) × (entered (built uecp_app) stop ≡ Some n) × IsCommand n.0
entered_one None has off = cc
entered_one (Some p) has off = go (find (λ s. answers_to p.0 (label_of s)) (built uecp_app).subs) refl has
  where
    go : (o : Option Shape) → find (λ s. answers_to p.0 (label_of s)) (built uecp_app).subs ≡ o
        → is_some (option_map (λ s. rows_at s p.1) o) ≡ true
        → (n : Text × List Row) × (option_map (λ s. rows_at s p.1)
        (find (λ s. answers_to p.0 (label_of s)) (built uecp_app).subs) ≡ Some n) × IsCommand n.0
    go None is has = cc
    go (Some s) is has = (
      rows_at s p.1,
      ap (option_map (λ (x : Shape). rows_at x p.1)) is,
      name_of s (pick_in (λ x. answers_to p.0 (label_of x)) (place 0) (place 1) (place 2) (place 3) (place 4) (place
          5) (place 6) (place 7) (place 8) (place 9) (place 10) (place 11) (place 12) (place 13) (place 14) s
          (ap (λ b. b || false) (not_help p.0 off)) is),
    )

-- ---- what no fault says
missing : (has help required argument : Bool) → required ≡ true
    → check_kinds (not has && help) (not has && required) argument ≡ [] → has ≡ true
missing true help required argument is e = refl
missing false true required argument is e = cc
missing false false true argument is e = cc
missing false false false argument is e = cc

level_none : (s : Shape) (names : Names) (words : List Text) (has : Bool) (below : Kinds)
    → level_fault s names nothing_held words has below ≡ []
    → (walk_fault s names (walk_from nothing_held) words ≡ [])
    × (check_fault s (finished s.rules (walk s.rules names nothing_held words).held) has ≡ [])
level_none s names words has below e =
    let end = (walk s.rules names nothing_held words).held in
    let check = check_fault s (finished s.rules end) has in
    let defaults = defaults_fault (settled s.rules end).rows s.rules in
    let settle = settle_fault s.rules s.args_override_self end in
    let first = walk_fault s names (walk_from nothing_held) words in
    let after = or_else below (or_else settle (or_else defaults check)) in (
      first_none first after e,
      then_none defaults check
          (then_none settle (or_else defaults check) (then_none below (or_else settle (or_else defaults check))
          (then_none first after e))),
    )

pub one_named : (words : List Text) → fault_of uecp_app words ≡ []
    → (n : Text × List Row) × (subcommand_of uecp_app words ≡ Some n) × IsCommand n.0
one_named words e =
    let a = built uecp_app in
    let ws = argument_words uecp_app words in
    let stop = stop_after a.top.rules (names_of a) ws in
    let none = level_none a.top (names_of a) ws (is_some (entered a stop)) (entered_fault a stop) e in
    let no_help = walk_stop a.top (names_of a) ws (walk_from nothing_held) refl refl none.0 in
    entered_one stop (missing (is_some (entered a stop)) false true false refl none.1) no_help
