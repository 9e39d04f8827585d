-- What a server says before the requests: its greeting, and the answers to options.
use Rattle.std.specs.Prelude.{ℕ, ◌^◌, ◌<◌, ◌==◌, List, [], ◌∷◌, ◌++◌, codes, Option, find}
use Rattle.nbd_wire.specs.declared.answer.Answer.{Answer}
use Rattle.nbd_wire.specs.declared.answer.Answer.TheVariants.{Acknowledged, Named, Told, Unsupported, Invalid}
use Rattle.nbd_wire.specs.declared.answer.AnswerHead.{AnswerHead}
use Rattle.nbd_wire.specs.declared.answer.Export.{Export}
use Rattle.nbd_wire.specs.Options.{kind_number, kind_of, IsKind}
use Rattle.nbd_wire.specs.Numbers.{half, word, long, word_at}
use Rattle.std.specs.Option.{option_map}

-- two magic words, and the flags of a server that speaks of options and needs no filling
unfoldable pub greeting_bytes : List ℕ
greeting_bytes = codes "NBDMAGIC" ++ codes "IHAVEOPT" ++ half 3

unfoldable pub answer_number : Answer → ℕ
answer_number Acknowledged = 1
answer_number Named = 2
answer_number Told = 3
answer_number Unsupported = 0x8000_0001
answer_number Invalid = 0x8000_0003

abbrev pub all_answers : List Answer
all_answers = Acknowledged ∷ Named ∷ Told ∷ Unsupported ∷ Invalid ∷ []

-- the answer of a number
unfoldable pub answer_of : ℕ → Option Answer
answer_of number = find (λ answer. answer_number answer == number) all_answers

-- the head of an answer: the magic number of answers, the option's kind, the answer and the length of its data
unfoldable pub answer_bytes : AnswerHead → List ℕ
answer_bytes a = long 0x0003_E889_0455_65A9 ++ word (kind_number a.kind) ++ word (answer_number a.answer) ++ word a.length

-- the numbers fit their places
pub record IsAnswer (a : AnswerHead) : Type 0 where
  pub kind : IsKind a.kind
  pub number : kind_number a.kind < 2 ^ 32
  pub length : a.length < 2 ^ 32

-- the answer whose numbers stand there
unfoldable pub answer_in : List ℕ → Option AnswerHead
answer_in bytes = option_map (λ answer. record { kind = kind_of (word_at 8 bytes); answer = answer; length = word_at 16 bytes }) (answer_of (word_at 12 bytes))

-- the flags of an export: flags are told, and FLUSH, FUA, TRIM and WRITE_ZEROES are served
abbrev pub export_flags : ℕ
export_flags = 0x006D

-- the end of the answer to `ExportName`, for a client that needs no filling: the size in bytes, and the flags
unfoldable pub export_bytes : Export → List ℕ
export_bytes e = long e.size ++ half export_flags

-- what is told of an export: number 0, its size and its flags
unfoldable pub size_bytes : Export → List ℕ
size_bytes e = half 0 ++ long e.size ++ half export_flags

-- and number 3, the least, the best and the greatest length of a request
unfoldable pub lengths_bytes : Export → List ℕ
lengths_bytes e = half 3 ++ word e.least ++ word e.best ++ word e.most
