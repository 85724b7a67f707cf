-- A connection whose first bytes are those of another protocol (profile).
use Rattle.std.specs.Prelude.{◌≡◌, ◌⊎◌, ◌<◌, ℕ, nat_eq, Bool, true, false, if◌then◌else◌, List, [], ◌∷◌, ◌++◌, codes}
use Rattle.std.specs.Prelude.{length, take}
use Rattle.std.specs.Prelude.{Option, Some, None, option_map}
use Rattle.std.specs.Io.KnownBytes.{Appends}
use Rattle.std.specs.List.{list_any, starts_with}
use Rattle.uecp_encoder.specs.Metered.{counted}
use Rattle.device_edges.specs.declared.screen.Phase.{Phase}
use Rattle.device_edges.specs.declared.screen.Phase.TheVariants.{Judging, Ours, Foreign}

-- With what the connections of HTTP and TLS begin: a method and a space (RFC 9110, 9.1; RFC 5789; RFC 9113, 3.4), and
-- the record of a handshake (RFC 8446, 5.1).
abbrev pub openings : List (List ℕ)
openings = codes "GET " ∷ codes "HEAD " ∷ codes "POST " ∷ codes "PUT " ∷ codes "DELETE " ∷ codes "CONNECT "
    ∷ codes "OPTIONS " ∷ codes "TRACE " ∷ codes "PATCH " ∷ codes "PRI " ∷ (22 ∷ 3 ∷ []) ∷ []

-- The bytes begin with one of them.
abbrev pub is_foreign : List ℕ → Bool
is_foreign bytes = list_any (λ opening. starts_with nat_eq bytes opening) openings

-- One of them begins with the bytes.
abbrev pub is_begun : List ℕ → Bool
is_begun bytes = list_any (λ opening. starts_with nat_eq opening bytes) openings

-- What the first bytes of a connection tell of it: that it is foreign; nothing yet; or that it is not.
abbrev pub judged : List ℕ → Phase
judged first = if is_foreign first then Foreign else (if is_begun first then Judging else Ours)

-- What is handed on of a connection that brings these bytes: nothing where it is foreign, and else all.
abbrev pub screened : List ℕ → List ℕ
screened bytes = if is_foreign bytes then [] else bytes

-- A reader, how far its first bytes are judged, and those of them that were read and not handed on yet.
pub record Screen (R : Type 0) : Type 0 where
  pub reader : R
  pub phase : Phase
  pub first : List ℕ

-- What is handed on still where this was read before, and this is left in the reader.
abbrev pub handed_on : Phase → (first rest : List ℕ) → List ℕ
handed_on Judging first rest = screened (first ++ rest)
handed_on Ours first rest = first ++ rest
handed_on Foreign first rest = []

-- The same of a reader of which it is known what is left, or not.
abbrev pub left : {R : Type 0} → (remaining : R → Option (List ℕ)) → Screen R → Option (List ℕ)
left remaining s = option_map (handed_on s.phase s.first) (remaining s.reader)

-- A reader of which nothing was read yet.
abbrev pub unjudged : {R : Type 0} → R → Screen R
unjudged reader = record { reader = reader; phase = Judging; first = [] }

-- The first bytes told that it is foreign.
abbrev pub was_foreign : Phase → Bool
was_foreign Judging = false
was_foreign Ours = false
was_foreign Foreign = true

-- ---- What is said once, and what is said of one that is foreign.

-- What was said of it, how often a write of that failed, and whether it was said.
pub record Notice : Type 0 where
  pub said : Option (List ℕ)
  pub failures : ℕ
  pub is_told : Bool

-- Nothing was said yet, behind this.
abbrev pub unsaid : (said : Option (List ℕ)) → Notice
unsaid said = record { said = said; failures = 0; is_told = false }

-- A line was said; or a write failed, and a beginning of it was said.
abbrev pub SaysLine : (line : List ℕ) → (n n' : Notice) → Type 0
SaysLine line n n' =
    (Appends n.said n'.said line × (n'.is_told ≡ true) × (n'.failures ≡ n.failures))
    ⊎ ((written : ℕ) × (written < length line) × Appends n.said n'.said (take written line) × (n'.is_told ≡ false)
    × (n'.failures ≡ counted n.failures))

-- So where it was not said before; once it was nothing is.
abbrev pub SaysFirst : (line : List ℕ) → (is_told : Bool) → (n n' : Notice) → Type 0
SaysFirst line true n n' = n' ≡ n
SaysFirst line false n n' = SaysLine line n n'

abbrev pub foreign_line : List ℕ
foreign_line = codes "uecp: HTTP or TLS, not UECP: a connection is closed, and nothing of it is taken\n"

-- So of a connection that was foreign, and of another nothing is said.
abbrev pub SaysOnce : (foreign : Bool) → (n n' : Notice) → Type 0
SaysOnce true n n' = SaysFirst foreign_line n.is_told n n'
SaysOnce false n n' = n' ≡ n

-- ---- Connections that are screened.

-- Where they come from, and what is said of those that are foreign.
pub record Screening (C : Type 0) : Type 0 where
  pub connect : C
  pub notice : Notice

-- One was opened, or none was to be had: its input is screened, and nothing of it was read.
abbrev pub OpensScreened : {C I O : Type 0} → (opens : C → Option (I × O) → C → Type 0) → Screening C
    → Option (Screen I × O) → Screening C → Type 0
OpensScreened opens s None s' = opens s.connect None s'.connect × (s'.notice ≡ s.notice)
OpensScreened {C} {I} opens s (Some (input, output)) s' =
    (reader : I) × (input ≡ unjudged reader) × opens s.connect (Some (reader, output)) s'.connect
    × (s'.notice ≡ s.notice)

-- One was given back, with what it is over, and that it was foreign is said once of all.
abbrev pub ClosesScreened : {C I O : Type 0} → (closes : C → I → O → C → Type 0) → Screening C → Screen I → O
    → Screening C → Type 0
ClosesScreened closes s input output s' =
    closes s.connect input.reader output s'.connect × SaysOnce (was_foreign input.phase) s.notice s'.notice
