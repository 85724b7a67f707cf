-- What `show --words` writes of findings is a script from which `make --words` writes their frames; a law (profile).
use Rattle.std.specs.Prelude.{◌≡◌, ℕ, ◌<◌, ◌≤◌, List, [], ◌∷◌, length, flat_map, Result, Ok, Err}
use Rattle.std.specs.List.{AllByRecursion}
use Rattle.uecp_frame.specs.declared.frame.Frame.{Frame}
use Rattle.uecp_frame.specs.Findings.{Finding}
use Rattle.uecp_elements.specs.Grammar.{AreBytes}
use Rattle.rds_text.specs.declared.programme_type.Region.{Region}
use Rattle.phrase_scripts.specs.Lines.{finding_lines}
use Rattle.uecp_text.specs.declared.run_fault.RunFault.{RunFault}
use Rattle.uecp_text.specs.Run.{Prints}
use Rattle.uecp_jobs.specs.PhraseScript.{MakesWords, first_heading, left_line}
use Rattle.uecp_jobs.specs.Remade.{spelled_lines}

-- A frame that can be: an address of 16 bits, a counter of 8, and a message of at most 255 bytes (SPB 490, frame
-- format).
pub record IsFrame (f : Frame) : Type 0 where
  pub address : f.address < 0x10000
  pub counter : f.counter < 0x100
  pub bytes : AreBytes f.message
  pub fits : length f.message ≤ 255

-- The frames among findings, in order; a segment that is none is left out (profile).
abbrev pub frames_among : List Finding → List Frame
frames_among [] = []
frames_among (Ok f ∷ findings) = f ∷ frames_among findings
frames_among (Err fault ∷ findings) = frames_among findings

-- Whatever `make --words` comes to on what `show --words` writes of findings, also where a message has a fault, it
-- refuses nothing and writes exactly their frames (profile).
abbrev pub IsRemadeInWords : Type 0
IsRemadeInWords =
    (region : Region) (findings : List Finding) (result : Result (Unit {0}) RunFault) (written : List ℕ)
    → AllByRecursion IsFrame (frames_among findings) →
    Prints (MakesWords region) first_heading left_line (flat_map (finding_lines region) findings) result written
    → (result ≡ Ok tt) × (written ≡ spelled_lines (frames_among findings))
