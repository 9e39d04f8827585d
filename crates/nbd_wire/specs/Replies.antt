-- The head of a reply: the server's magic number, an error and the handle of its request.
use Rattle.std.specs.Prelude.{ℕ, ◌==◌, List, [], ◌∷◌, ◌++◌, Option, find}
use Rattle.nbd_wire.specs.declared.reply.Errno.{Errno}
use Rattle.nbd_wire.specs.declared.reply.Errno.TheVariants.{Done, InputOutput, Invalid, NoSpace}
use Rattle.nbd_wire.specs.declared.reply.ReplyHead.{ReplyHead}
use Rattle.nbd_wire.specs.Numbers.{word, long, word_at, long_at}
use Rattle.std.specs.Option.{option_map}

unfoldable pub errno_number : Errno → ℕ
errno_number Done = 0
errno_number InputOutput = 5
errno_number Invalid = 22
errno_number NoSpace = 28

abbrev pub all_errnos : List Errno
all_errnos = Done ∷ InputOutput ∷ Invalid ∷ NoSpace ∷ []

-- the error of a number
unfoldable pub errno_of : ℕ → Option Errno
errno_of number = find (λ error. errno_number error == number) all_errnos

unfoldable pub reply_bytes : ReplyHead → List ℕ
reply_bytes r = word 0x6744_6698 ++ word (errno_number r.error) ++ long r.handle

-- the reply whose numbers stand there
unfoldable pub reply_in : List ℕ → Option ReplyHead
reply_in bytes = option_map (λ error. record { error = error; handle = long_at 8 bytes }) (errno_of (word_at 4 bytes))
