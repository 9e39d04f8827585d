-- What the bytes of a message say is that message.
use Rattle.std.proofs.Common.{◌≡◌, ◌^◌, ◌<◌, [], Some, refl, arith}
use Rattle.byteorder.specs.Numbers.{big_number-reads_back}
use Rattle.nbd_wire.specs.declared.request.Request.{Request}
use Rattle.nbd_wire.specs.declared.reply.Errno.{Errno}
use Rattle.nbd_wire.specs.declared.reply.Errno.TheVariants.{Done, InputOutput, Invalid as Outside, NoSpace}
use Rattle.nbd_wire.specs.declared.reply.ReplyHead.{ReplyHead}
use Rattle.nbd_wire.specs.declared.option.OptionHead.{OptionHead}
use Rattle.nbd_wire.specs.declared.answer.Answer.{Answer}
use Rattle.nbd_wire.specs.declared.answer.Answer.TheVariants.{Acknowledged, Named, Told, Unsupported, Invalid}
use Rattle.nbd_wire.specs.declared.answer.AnswerHead.{AnswerHead}
use Rattle.nbd_wire.specs.Numbers.{half, word, long, half_at, word_at, long_at}
use Rattle.nbd_wire.specs.Commands.{command_number}
use Rattle.nbd_wire.specs.Requests.{request_bytes, request_in, IsRequest}
use Rattle.nbd_wire.specs.Replies.{errno_number, errno_of, reply_bytes, reply_in}
use Rattle.nbd_wire.specs.Options.{kind_number, option_bytes, option_in, IsOption}
use Rattle.nbd_wire.specs.Answers.{answer_number, answer_of, answer_bytes, answer_in, IsAnswer}

-- ---- requests

flags_again : (r : Request) → r.flags < 2 ^ 16 → half_at 4 (request_bytes r) ≡ r.flags
unfolding half_at request_bytes half word long
flags_again r h = big_number-reads_back 2 r.flags [] h

command_again : (r : Request) → command_number r.command < 2 ^ 16 → half_at 6 (request_bytes r) ≡ command_number r.command
unfolding half_at request_bytes half word long
command_again r h = big_number-reads_back 2 (command_number r.command) [] h

handle_again : (r : Request) → r.handle < 2 ^ 64 → long_at 8 (request_bytes r) ≡ r.handle
unfolding long_at request_bytes half word long
handle_again r h = big_number-reads_back 8 r.handle [] h

offset_again : (r : Request) → r.offset < 2 ^ 64 → long_at 16 (request_bytes r) ≡ r.offset
unfolding long_at request_bytes half word long
offset_again r h = big_number-reads_back 8 r.offset [] h

length_again : (r : Request) → r.length < 2 ^ 32 → word_at 24 (request_bytes r) ≡ r.length
unfolding word_at request_bytes half word long
length_again r h = big_number-reads_back 4 r.length [] h

pub request_again : (r : Request) → IsRequest r → request_in (request_bytes r) ≡ r
unfolding request_in
request_again r h =
    rw (flags_again r h.flags, command_again r h.number, h.command, handle_again r h.handle, offset_again r h.offset, length_again r h.length) refl

-- ---- replies

errno_again : (error : Errno) → (errno_of (errno_number error) ≡ Some error) × (errno_number error < 2 ^ 32)
unfolding errno_of errno_number
errno_again Done = (refl, omega arith)
errno_again InputOutput = (refl, omega arith)
errno_again Outside = (refl, omega arith)
errno_again NoSpace = (refl, omega arith)

error_again : (r : ReplyHead) → word_at 4 (reply_bytes r) ≡ errno_number r.error
unfolding word_at reply_bytes word long
error_again r = big_number-reads_back 4 (errno_number r.error) [] (errno_again r.error).1

reply_handle_again : (r : ReplyHead) → r.handle < 2 ^ 64 → long_at 8 (reply_bytes r) ≡ r.handle
unfolding long_at reply_bytes word long
reply_handle_again r h = big_number-reads_back 8 r.handle [] h

pub reply_again : (r : ReplyHead) → r.handle < 2 ^ 64 → reply_in (reply_bytes r) ≡ Some r
unfolding reply_in
reply_again r h = rw (error_again r, (errno_again r.error).0, reply_handle_again r h) refl

-- ---- options

kind_again : (o : OptionHead) → kind_number o.kind < 2 ^ 32 → word_at 8 (option_bytes o) ≡ kind_number o.kind
unfolding word_at option_bytes word long
kind_again o h = big_number-reads_back 4 (kind_number o.kind) [] h

option_length_again : (o : OptionHead) → o.length < 2 ^ 32 → word_at 12 (option_bytes o) ≡ o.length
unfolding word_at option_bytes word long
option_length_again o h = big_number-reads_back 4 o.length [] h

pub option_again : (o : OptionHead) → IsOption o → option_in (option_bytes o) ≡ o
unfolding option_in
option_again o h = rw (kind_again o h.number, h.kind, option_length_again o h.length) refl

-- ---- answers

number_again : (answer : Answer) → (answer_of (answer_number answer) ≡ Some answer) × (answer_number answer < 2 ^ 32)
unfolding answer_of answer_number
number_again Acknowledged = (refl, omega arith)
number_again Named = (refl, omega arith)
number_again Told = (refl, omega arith)
number_again Unsupported = (refl, omega arith)
number_again Invalid = (refl, omega arith)

answer_kind_again : (a : AnswerHead) → kind_number a.kind < 2 ^ 32 → word_at 8 (answer_bytes a) ≡ kind_number a.kind
unfolding word_at answer_bytes word long
answer_kind_again a h = big_number-reads_back 4 (kind_number a.kind) [] h

answer_number_again : (a : AnswerHead) → word_at 12 (answer_bytes a) ≡ answer_number a.answer
unfolding word_at answer_bytes word long
answer_number_again a = big_number-reads_back 4 (answer_number a.answer) [] (number_again a.answer).1

answer_length_again : (a : AnswerHead) → a.length < 2 ^ 32 → word_at 16 (answer_bytes a) ≡ a.length
unfolding word_at answer_bytes word long
answer_length_again a h = big_number-reads_back 4 a.length [] h

pub answer_again : (a : AnswerHead) → IsAnswer a → answer_in (answer_bytes a) ≡ Some a
unfolding answer_in
answer_again a h = rw (answer_kind_again a h.number, h.kind, answer_number_again a, (number_again a.answer).0, answer_length_again a h.length) refl
