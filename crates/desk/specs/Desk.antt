-- What `box_out` replies: how it is used, a refusal, or the bytes of the box.
use Rattle.std.specs.Prelude.{◌≡◌, Bool, true, false, cond, List, ℕ, ltb, eqb, length, Option, Some, None}
use Rattle.answers.specs.Verdict.{Meets}
use Rattle.answers.specs.declared.Answer.{Answer}
use Rattle.box_rules.specs.Box.{box_bytes}
use Rattle.desk.specs.declared.Reply.{Reply}
use Rattle.desk.specs.declared.Reply.TheVariants.{Usage, Refused, Bytes}

-- P21: number 0 hands out the bytes, any other is a refusal
unfoldable pub reply_to : Answer → Reply
reply_to a = cond (eqb a.number 0) (Bytes a.place) (Refused a)

-- P21: the reply hands out bytes
unfoldable pub served : Reply → Bool
served Usage = false
served (Refused a) = false
served (Bytes k) = true

-- P22: a reply and what the buffer holds then: as it was, or as the call for the box leaves it
abbrev pub Untouched : Reply → List ℕ → List ℕ → Reply → Type 0
Untouched reply before after r = (r ≡ reply) × (after ≡ before)

-- P21: the reply that follows from the answer of the call for the box
pub record Called (file : List ℕ) (kind instance : ℕ) (before after : List ℕ) (r : Reply) : Type 0 where
  pub answer : Answer
  pub met : Meets 0 (box_bytes file kind instance (length before)) before after answer
  pub same : r ≡ reply_to answer

-- P23: a file of more bytes than fit is 20: the program's own, which the call never gives
abbrev pub too_long : Reply
too_long = Refused (record { number = 20; place = 0; second = 0 })

-- P23: the file is too long, or the call is asked
abbrev pub ServedIf : Bool → List ℕ → ℕ → ℕ → List ℕ → List ℕ → Reply → Type 0
ServedIf true file kind instance before after r = Untouched too_long before after r
ServedIf false file kind instance before after r = Called file kind instance before after r

-- P21: a file is too long if it has more than `most` bytes
unfoldable pub Served : List ℕ → ℕ → ℕ → ℕ → List ℕ → List ℕ → Reply → Type 0
Served file most kind instance before after r = ServedIf (ltb most (length file)) file kind instance before after r

-- P22: words that ask for nothing are answered by how the program is used
abbrev pub AskedIf : Bool → ℕ → ℕ → List ℕ → ℕ → List ℕ → List ℕ → Reply → Type 0
AskedIf true kind instance file most before after r = Untouched Usage before after r
AskedIf false kind instance file most before after r = Served file most kind instance before after r

-- P21: a word that is missing or asks for nothing, or the box
unfoldable pub Replies : Option ℕ → Option ℕ → List ℕ → ℕ → List ℕ → List ℕ → Reply → Type 0
Replies None instance file most before after r = Untouched Usage before after r
Replies (Some k) None file most before after r = Untouched Usage before after r
Replies (Some k) (Some i) file most before after r = AskedIf (cond (ltb 4294967295 k) true (ltb 65535 i)) k i file most before after r
