-- Connections with faults over others (profile).
use Rattle.std.specs.Prelude.{◌≡◌, ◌⊎◌, ◌-◌, ◌^◌, ℕ, zero, suc, max, Bool, false, nat_lt, nat_le, ◌&&◌, List, [], ◌∷◌}
use Rattle.std.specs.Prelude.{Option, Some, None, MatchOption}
use Rattle.std.specs.List.{list_any}
use Rattle.bad_line.specs.declared.rules.rule.Way.TheVariants.{Frame}
use Rattle.bad_line.specs.declared.rules.rule.Rule.{Rule}
use Rattle.bad_line.specs.declared.rules.rule.Rule.TheVariants.{BreakAfter, RefuseConnections, RestartAfter}
use Rattle.bad_line.specs.Fates.{Passing}
use Rattle.bad_line.specs.Passages.{opened}
use Rattle.bad_line.specs.Ends.{End}

-- ---- What rules say that is no matter of a segment.

-- For how many milliseconds from the start no connection is taken: of several rules the longest counts.
abbrev pub refusal_in : List Rule → ℕ
refusal_in [] = 0
refusal_in (RefuseConnections milliseconds ∷ rules) = max milliseconds (refusal_in rules)
refusal_in (rule ∷ rules) = refusal_in rules

-- The connection breaks too where the encoder begins anew.
abbrev pub with_restarts : List Rule → List Rule
with_restarts [] = []
with_restarts (RestartAfter number ∷ rules) = BreakAfter Frame number ∷ with_restarts rules
with_restarts (rule ∷ rules) = rule ∷ with_restarts rules

-- Whether the encoder begins anew behind a frame after the first so many, up to the last so many.
abbrev pub is_restart : (before passed : ℕ) → Rule → Bool
is_restart before passed (RestartAfter number) = nat_lt before number && nat_le number passed
is_restart before passed rule = false

-- ---- Connections.

-- Where connections with faults come from: where those without come from; the faults of the two directions, which are
-- away while a connection is open; whether some rule refuses connections; and the rules, with how many frames had come
-- when it was asked last whether the encoder begins anew.
pub record Line (C : Type 0) : Type 0 where
  pub connect : C
  pub frames : Option Passing
  pub replies : Option Passing
  pub refuses : Bool
  pub rules : List Rule
  pub asked : ℕ

-- The same while a connection is open.
abbrev pub away : {C : Type 0} → Line C → Line C
away line = record line { frames = None; replies = None }

-- An end of a connection as it is opened, with the faults that go on from the one before.
abbrev pub opened_end : {D : Type 0} → D → Passing → End D
opened_end device faults = record { device = device; direction = opened faults }

-- So many connections were opened and closed at once.
abbrev pub Refuses : {C I O : Type 0} → (C → Option (I × O) → C → Type 0) → (C → I → O → C → Type 0) → (count : ℕ)
    → (old new : C) → Type 0
Refuses opens closes zero old new = new ≡ old
Refuses {C} {I} {O} opens closes (suc count) old new =
    (input : I) × (output : O) × (between : C) × (next : C) × opens old (Some (input, output)) between
    × closes between input output next × Refuses opens closes count next new

-- So many connections were refused, and that only where a rule refuses any.
abbrev pub RefusesSome : {C I O : Type 0} → (C → Option (I × O) → C → Type 0) → (C → I → O → C → Type 0)
    → Line C → (count : ℕ) → (new : C) → Type 0
RefusesSome opens closes line count new =
    Refuses opens closes count line.connect new × (line.refuses ≡ false → count ≡ 0)

-- A connection without faults is opened behind those that are refused, or there is none, or as many were refused as are
-- counted.
abbrev pub OpensNext : {C I O : Type 0} → (C → Option (I × O) → C → Type 0) → (C → I → O → C → Type 0)
    → Line C → Option (I × O) → Line C → Type 0
OpensNext {C} opens closes line ends line' =
    (count : ℕ) × (between : C) × RefusesSome opens closes line count between
    × (opens between ends line'.connect
    ⊎ ((count ≡ 2 ^ 64 - 1) × (ends ≡ None) × (line'.connect ≡ between)))
    × (line' ≡ record line { connect = line'.connect })

-- A connection is opened so, and its ends have the faults that go on. There is none where there is none without faults,
-- or where another is open.
abbrev pub OpensFaulty : {C I O : Type 0} → (C → Option (I × O) → C → Type 0) → (C → I → O → C → Type 0)
    → Line C → Option (End I × End O) → Line C → Type 0
OpensFaulty {C} {I} {O} opens closes line (Some (input, output)) line' =
    (inner : I) × (outer : O) × (frames : Passing) × (replies : Passing)
    × OpensNext opens closes (away line) (Some (inner, outer)) line'
    × (line.frames ≡ Some frames) × (line.replies ≡ Some replies)
    × (input ≡ opened_end inner frames) × (output ≡ opened_end outer replies)
OpensFaulty opens closes line None line' =
    (((line.frames ≡ None) ⊎ (line.replies ≡ None)) × (line' ≡ line)) ⊎ OpensNext opens closes line None line'

-- A connection is closed, and the faults go on.
abbrev pub ClosesFaulty : {C I O : Type 0} → (C → I → O → C → Type 0) → Line C → End I → End O → Line C → Type 0
ClosesFaulty closes line input output line' = closes line.connect input.device output.device line'.connect
    × (line' ≡ record line {
      connect = line'.connect;
      frames = Some input.direction.cutting.faults;
      replies = Some output.direction.cutting.faults;
    })

-- It was asked whether the encoder begins anew: it does where some rule says so of a frame that came since this was
-- asked last. While a connection is open nothing is told.
abbrev pub AsksRestart : {C : Type 0} → Line C → Bool → Line C → Type 0
AsksRestart line result line' = MatchOption line.frames
    ((result ≡ false) × (line' ≡ line))
    (λ frames. (result ≡ list_any (is_restart line.asked frames.passed) line.rules)
    × (line' ≡ record line { asked = frames.passed }))
