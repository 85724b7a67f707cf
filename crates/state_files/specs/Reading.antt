-- What a state file has. Source: profile.
use Rattle.std.specs.Prelude.{ℕ, List, Ok}
use Rattle.end_images.specs.Reading.{EncoderRead, ServerRead}
use Rattle.state_files.specs.declared.reading.Found.{Found}
use Rattle.state_files.specs.declared.reading.Found.TheVariants as found

-- the end is the one whose image these bytes are
abbrev pub IsFoundIn : List ℕ → Found → Type 0
IsFoundIn bytes (found.Encoder e) = EncoderRead bytes (Ok e)
IsFoundIn bytes (found.Server s progress) =
    ServerRead bytes (Ok (record { joined = progress.joined; taken = progress.taken; server = s }))
IsFoundIn bytes found.Empty = ⊥
