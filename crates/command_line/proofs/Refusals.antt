-- What clap refuses of words, and which entry of a file is refused.
use Rattle.std.proofs.Common.{◌≡◌, ℕ, ◌+◌, ◌<◌, List, [], ◌∷◌, ◌++◌, ap, sym, ◌∙◌, subst, inl, inr, map, take, length}
use Rattle.std.proofs.Common.{get_or}
use Rattle.std.specs.List.{All}
use Rattle.std.proofs.lemmas.List.{get_or-map, length-map, map-append, take_more}
use Rattle.std.proofs.lemmas.List.Elements.{All-push}
use Rattle.clap.specs.Faults.{fault_of}
use Rattle.clap.specs.Kinds.{HasKind, IsAmong}
use Rattle.clap.specs.Values.{kind_of}
use Rattle.clap.specs.declared.error.Error.{Error}
use Rattle.clap.specs.declared.error.kind.ErrorKind.TheVariants.{MissingRequiredArgument, OutOfMemory as NoMemory}
use Rattle.option_files.specs.Words.{Entry, Text}
use Rattle.option_files.specs.Entries.{entry_view}
use Rattle.option_files.specs.declared.entries.Entry.{Entry as EntryValue}
use Rattle.command_line.specs.declared.file_fault.FileFault.{FileFault}
use Rattle.command_line.specs.declared.file_fault.FileFault.TheVariants.{Entries, Refused, NotAList, OutOfMemory}
use Rattle.command_line.specs.CommandLine.{uecp_app}
use Rattle.command_line.specs.Settled.{AreRefused, AreTaken, RefusesEntries, RefusesEntry}

-- words that an argument is missing from are taken
pub missing_taken : (words : List Text) (error : Error) → HasKind (fault_of uecp_app words) error
    → kind_of error ≡ MissingRequiredArgument → AreTaken words
missing_taken words error (inl memory) missing =
    absurd (let bad : NoMemory ≡ MissingRequiredArgument = sym memory ∙ missing in cc)
missing_taken words error (inr among) missing =
    inr (subst (λ kind. IsAmong kind (fault_of uecp_app words)) missing among)

-- words with another fault are refused
pub refused_so : (words : List Text) (error : Error) → HasKind (fault_of uecp_app words) error
    → (kind_of error ≡ NoMemory → ⊥) → (kind_of error ≡ MissingRequiredArgument → ⊥) → AreRefused words error
refused_so words error (inl memory) other more = absurd (other memory)
refused_so words error (inr among) other more = (among, more)

-- one more entry is taken
pub taken_more : (P : Entry → Type 0) (es : List EntryValue) (i : ℕ) (e : EntryValue) → i < length es
    → e ≡ get_or es i e → All P (map entry_view (take i es)) → P (entry_view e)
    → All P (map entry_view (take (i + 1) es))
taken_more P es i e lt is all one =
    let grown : map entry_view (take (i + 1) es) ≡ map entry_view (take i es) ++ entry_view e ∷ [] =
    ap (map entry_view) (take_more es i e lt) ∙ map-append entry_view (take i es) (get_or es i e ∷ [])
    ∙ ap (λ x. map entry_view (take i es) ++ entry_view x ∷ []) (sym is) in
    subst (All P) (sym grown) (All-push P (map entry_view (take i es)) (entry_view e) all one)

-- entries of which one is refused are refused
pub refused_one : (given : List Text) (es : List EntryValue) (i : ℕ) (e : EntryValue) (fault : FileFault)
    → i < length es → e ≡ get_or es i e → RefusesEntry given (entry_view e) fault
    → RefusesEntries given (map entry_view es) fault
refused_one given es i e (Entries why) lt is refused = absurd refused
refused_one given es i e (Refused name error) lt is refused = (
  i,
  entry_view e,
  subst (λ n. i < n) (sym (length-map es entry_view)) lt,
  get_or-map entry_view es i e (entry_view e) lt ∙ ap entry_view (sym is),
  refused,
)
refused_one given es i e NotAList lt is refused = absurd refused
refused_one given es i e OutOfMemory lt is refused = tt
