-- The codes and their bytes give one another back.
use Rattle.std.proofs.Common.{◌≡◌, ℕ, ◌==◌, cond, Option, Some, refl, ◌∙◌, ap, sym}
use Rattle.std.proofs.lemmas.Bool.{cond_both, eqb-true}
use Rattle.uecp_elements.specs.declared.code.Code.{Code}
use Rattle.uecp_elements.specs.declared.code.Code.TheVariants.{Applied, UnknownElement, DataSet, Service, OutOfRange}
use Rattle.uecp_elements.specs.declared.code.Code.TheVariants.{ElementLength, NotHere, BufferFull}
use Rattle.uecp_elements.specs.Codes.{byte_of, code_of_byte, IsReadBack, IsWrittenBack}

pub read_back : IsReadBack
unfolding code_of_byte
read_back Applied = refl
read_back UnknownElement = refl
read_back DataSet = refl
read_back Service = refl
read_back OutOfRange = refl
read_back ElementLength = refl
read_back NotHere = refl
read_back BufferFull = refl

-- one line of the table: the byte k stands for c, and other bytes for what the others say
line : (byte : ℕ) (code c : Code) (others : Option Code) → (others ≡ Some code → byte_of code ≡ byte) →
    cond (byte == byte_of c) (Some c) others ≡ Some code → byte_of code ≡ byte
line byte code c others there =
    cond_both (byte == byte_of c) (Some c) others (λ z. z ≡ Some code → byte_of code ≡ byte)
    (λ t h. let same : c ≡ code = cc in sym (ap byte_of same) ∙ sym (eqb-true byte (byte_of c) t))
    (λ f h. there h)

pub written_back : IsWrittenBack
unfolding code_of_byte
written_back byte code =
    line byte code Applied _
    (line byte code UnknownElement _
    (line byte code DataSet _
    (line byte code Service _
    (line byte code OutOfRange _
    (line byte code ElementLength _
    (line byte code NotHere _
    (line byte code BufferFull _
    (λ h. absurd (cc)))))))))
