-- What the words of a line of an event script name (profile).
use Rattle.std.specs.Prelude.{◌≡◌, ℕ, ◌≤◌, ◌<◌, Bool, true, List, [], ◌∷◌, length, drop, map, codes, Some, Ok, is_some}
use Rattle.std.specs.List.{list_all}
use Rattle.hex.specs.Hex.{decode_of}
use Rattle.uecp_link.specs.Once.{Event, Submit, FrameComes, ReplyComes, NoiseToEncoder, NoiseToServer, EncoderLost}
use Rattle.uecp_link.specs.Once.{ServerLost, EncoderRestart, ServerRestart, Take}
use Rattle.uecp_link.specs.Events.{lost_of}
use Rattle.uecp_link.specs.declared.event.Side.{Side}
use Rattle.uecp_link.specs.declared.event.Side.TheVariants as side
use Rattle.uecp_words.specs.declared.event_words.EventLine.{EventLine}
use Rattle.uecp_words.specs.declared.event_words.EventLine.TheVariants as line
use Rattle.uecp_text.specs.declared.text_fault.TextFault.{TextFault}
use Rattle.uecp_text.specs.declared.text_fault.TextFault.TheVariants as fault
use Rattle.uecp_text.specs.Words.{decimal_in, IsRow}

-- The first word of the line that names an event.
abbrev pub name_of : Event → List ℕ
name_of (Submit m) = codes "submit"
name_of (FrameComes number) = codes "frame"
name_of (ReplyComes number) = codes "reply"
name_of (NoiseToEncoder bytes) = codes "noise-encoder"
name_of (NoiseToServer bytes) = codes "noise-server"
name_of EncoderLost = codes "line-lost"
name_of ServerLost = codes "line-lost"
name_of EncoderRestart = codes "restart"
name_of ServerRestart = codes "restart"
name_of Take = codes "take"

-- The word of one end.
abbrev pub end_word : Side → List ℕ
end_word side.Encoder = codes "encoder"
end_word side.Server = codes "server"

-- The word is the number of a message, of one to nine decimal digits.
abbrev pub IsMessageNumber : List ℕ → ℕ → Type 0
IsMessageNumber word number = (length word ≤ 9) × (decimal_in 999999999 word ≡ Some number)

-- The word is the length of a piece, 0 to 65535 in decimal.
abbrev pub is_cut : List ℕ → Bool
is_cut word = is_some (decimal_in 65535 word)

-- The words are the lengths of these pieces, in order.
abbrev pub AreCuts : (words : List (List ℕ)) → (cut : List ℕ) → Type 0
AreCuts words cut = map (decimal_in 65535) words ≡ map Some cut

-- The words are the number of a message and any cuts.
abbrev pub TellsMessage : List (List ℕ) → (number : ℕ) → Type 0
TellsMessage words number = (word : List ℕ) × (cuts : List (List ℕ)) × (words ≡ word ∷ cuts)
    × IsMessageNumber word number × (list_all is_cut cuts ≡ true)

-- The only word is a row of bytes.
abbrev pub TellsRow : List (List ℕ) → List ℕ → Type 0
TellsRow words bytes = (word : List ℕ) × (words ≡ word ∷ []) × IsRow word bytes

-- The only word is the hexadecimal digits of these bytes.
abbrev pub TellsNoise : List (List ℕ) → List ℕ → Type 0
TellsNoise words bytes = (word : List ℕ) × (words ≡ word ∷ []) × (decode_of word ≡ Ok bytes)

-- The words after the first tell the rest of the event. A message has at most 255 bytes.
abbrev pub Tells : List (List ℕ) → Event → Type 0
Tells words (Submit m) = TellsRow words m × (length m ≤ 255)
Tells words (FrameComes number) = TellsMessage words number
Tells words (ReplyComes number) = TellsMessage words number
Tells words (NoiseToEncoder bytes) = TellsNoise words bytes
Tells words (NoiseToServer bytes) = TellsNoise words bytes
Tells words EncoderLost = words ≡ codes "encoder" ∷ []
Tells words ServerLost = words ≡ codes "server" ∷ []
Tells words EncoderRestart = words ≡ codes "encoder" ∷ []
Tells words ServerRestart = words ≡ codes "server" ∷ []
Tells words Take = words ≡ []

-- The words name the event: the first is its name, and the others tell the rest.
abbrev pub Names : List (List ℕ) → Event → Type 0
Names words event = (others : List (List ℕ)) × (words ≡ name_of event ∷ others) × Tells others event

-- The words submit these bytes, however many they are.
abbrev pub Submits : List (List ℕ) → List ℕ → Type 0
Submits words bytes = (others : List (List ℕ)) × (words ≡ codes "submit" ∷ others) × TellsRow others bytes

-- The words name no event, and submit no bytes.
pub record NamesNothing (words : List (List ℕ)) : Type 0 where
  pub no_event : (event : Event) → Names words event → ⊥
  pub no_bytes : (bytes : List ℕ) → Submits words bytes → ⊥

-- The words behind the name of such an event hold what takes memory: a lone word the bytes of a message or of noise,
-- two and more a number and the lengths of pieces.
abbrev pub TakesMemory : Event → (others : List (List ℕ)) → Type 0
TakesMemory (Submit m) others = length others ≡ 1
TakesMemory (FrameComes number) others = 1 < length others
TakesMemory (ReplyComes number) others = 1 < length others
TakesMemory (NoiseToEncoder bytes) others = length others ≡ 1
TakesMemory (NoiseToServer bytes) others = length others ≡ 1
TakesMemory EncoderLost others = ⊥
TakesMemory ServerLost others = ⊥
TakesMemory EncoderRestart others = ⊥
TakesMemory ServerRestart others = ⊥
TakesMemory Take others = ⊥

-- Memory may be wanting for the words: the first is the name of an event, and the others hold what takes some.
abbrev pub MayWantMemory : List (List ℕ) → Type 0
MayWantMemory words = (event : Event) × (others : List (List ℕ)) × (words ≡ name_of event ∷ others)
    × TakesMemory event others

-- What is wrong with the words: they name nothing; or they submit more than 255 bytes. Or memory was wanting for what
-- they hold.
abbrev pub IsFaultOf : List (List ℕ) → TextFault → Type 0
IsFaultOf words fault.NotACommand = NamesNothing words
IsFaultOf words fault.MessageTooLong = (bytes : List ℕ) × Submits words bytes × (255 < length bytes)
IsFaultOf words fault.OutOfMemory = MayWantMemory words
IsFaultOf words fault.NotHex = ⊥
IsFaultOf words fault.NoFrame = ⊥
IsFaultOf words (fault.Unsaid unsaid) = ⊥

-- Noise towards one end.
abbrev pub noise_to : Side → List ℕ → Event
noise_to side.Encoder bytes = NoiseToEncoder bytes
noise_to side.Server bytes = NoiseToServer bytes

-- An end starts again, and goes on from what it kept.
abbrev pub restart_of : Side → Event
restart_of side.Encoder = EncoderRestart
restart_of side.Server = ServerRestart

-- The event of a line of a script, without its cuts.
abbrev pub event_seen : EventLine → Event
event_seen (line.Submit m) = Submit m
event_seen (line.Frame number cut) = FrameComes number
event_seen (line.Reply number cut) = ReplyComes number
event_seen (line.Noise end bytes) = noise_to end bytes.items
event_seen (line.LineLost end) = lost_of end
event_seen (line.Restart end) = restart_of end
event_seen line.Take = Take

-- The pieces of the event of a line have the lengths that its words tell behind the name and the number.
abbrev pub IsCutAs : List (List ℕ) → EventLine → Type 0
IsCutAs words (line.Submit m) = Unit {0}
IsCutAs words (line.Frame number cut) = AreCuts (drop 2 words) cut.items
IsCutAs words (line.Reply number cut) = AreCuts (drop 2 words) cut.items
IsCutAs words (line.Noise end bytes) = Unit {0}
IsCutAs words (line.LineLost end) = Unit {0}
IsCutAs words (line.Restart end) = Unit {0}
IsCutAs words line.Take = Unit {0}

-- The number of the message that an event names, or 0 where it names none.
abbrev pub named_message : Event → ℕ
named_message (Submit m) = 0
named_message (FrameComes number) = number
named_message (ReplyComes number) = number
named_message (NoiseToEncoder bytes) = 0
named_message (NoiseToServer bytes) = 0
named_message EncoderLost = 0
named_message ServerLost = 0
named_message EncoderRestart = 0
named_message ServerRestart = 0
named_message Take = 0
