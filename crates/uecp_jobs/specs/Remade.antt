-- What `show` writes of frames is a script from which `make` writes those frames; a law (profile).
use Rattle.std.specs.Prelude.{◌≡◌, ℕ, ◌<◌, ◌≤◌, List, length, map, flat_map, Some, None, Result, Ok}
use Rattle.std.specs.List.{AllByRecursion}
use Rattle.uecp_frame.specs.declared.frame.Frame.{Frame}
use Rattle.uecp_elements.specs.Grammar.{Element, AreBytes}
use Rattle.uecp_elements.specs.Reading.{items}
use Rattle.uecp_lines.specs.Lines.{frame_lines}
use Rattle.uecp_text.specs.declared.run_fault.RunFault.{RunFault}
use Rattle.uecp_text.specs.Run.{Prints}
use Rattle.uecp_jobs.specs.FrameScript.{Makes, spelled_line}

-- A frame whose message has no fault: an address of 16 bits, a counter of 8, and at most 255 bytes that read as
-- elements to their end.
pub record IsWhole (f : Frame) : Type 0 where
  pub address : f.address < 0x10000
  pub counter : f.counter < 0x100
  pub bytes : AreBytes f.message
  pub fits : length f.message ≤ 255
  pub elements : List Element
  pub read : items f.message ≡ map Ok elements

-- The line of each of these frames, in order.
abbrev pub spelled_lines : List Frame → List ℕ
spelled_lines frames = flat_map (λ f. spelled_line (Some f)) frames

-- Whatever `make` comes to on what `show` writes of such frames, it refuses nothing and writes those frames.
abbrev pub IsRemade : Type 0
IsRemade =
    (frames : List Frame) (result : Result (Unit {0}) RunFault) (written : List ℕ) → AllByRecursion IsWhole frames →
    Prints Makes None spelled_line (flat_map frame_lines frames) result written
    → (result ≡ Ok tt) × (written ≡ spelled_lines frames)
