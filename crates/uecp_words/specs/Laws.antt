-- Laws of what is shown and what is said: the lines that show a frame are lines of a script, and say that frame
-- (profile).
use Rattle.std.specs.Prelude.{◌≡◌, ℕ, ◌+◌, ◌<◌, List, ◌∷◌, ◌++◌, codes}
use Rattle.uecp_elements.specs.Grammar.{Element, IsElement, AreBytes, spelling}
use Rattle.uecp_text.specs.Input.{lines_of, numbered}
use Rattle.uecp_text.specs.Words.{words}
use Rattle.uecp_text.specs.Digits.{byte_word, number_word}
use Rattle.uecp_lines.specs.Lines.{element_words}
use Rattle.uecp_words.specs.ScriptWords.{Names, Line, Says, Begins}

-- Law: what is shown of an element of bytes names it.
abbrev pub IsNamedAsShown : Type 0
IsNamedAsShown = (e : Element) → IsElement e → AreBytes (spelling e) → Names (words (element_words e)) e

-- Law: what is shown of a frame's address and counter begins that frame.
abbrev pub IsBegunAsShown : Type 0
IsBegunAsShown = (address counter : ℕ) → address < 0x10000 → counter < 0x100
    → Says (words (codes "frame" ++ number_word address ++ byte_word counter)) (Begins address counter)

-- Law: words say one thing at most.
abbrev pub IsOneMeaning : Type 0
IsOneMeaning = (words : List (List ℕ)) (l m : Line) → Says words l → Says words m → l ≡ m

-- Law: the line of an element says what is shown of it, whatever comes behind that line.
abbrev pub IsLineOfElement : Type 0
IsLineOfElement = (e : Element) (number : ℕ) (rest : List ℕ)
    → numbered number (lines_of (element_words e ++ codes "\n" ++ rest)) ≡ (number, element_words e)
    ∷ numbered (number + 1) (lines_of rest)

-- Law: the first line of a frame says what is shown of its address and counter, whatever comes behind that line.
abbrev pub IsLineOfFrame : Type 0
IsLineOfFrame =
    (address counter number : ℕ) (rest : List ℕ) →
    numbered number (lines_of (codes "frame" ++ number_word address ++ byte_word counter ++ codes "\n" ++ rest))
    ≡ (number, codes "frame" ++ number_word address ++ byte_word counter) ∷ numbered (number + 1) (lines_of rest)
