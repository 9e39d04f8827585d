-- The texts of replies.
use Rattle.std.specs.Prelude.{ℕ, List, [], ◌∷◌, ◌++◌, decimal, codes}
use Rattle.rssd_script.specs.declared.replies.Reply.{Reply}
use Rattle.rssd_script.specs.declared.replies.Reply.TheVariants.{First, Second, Declined, Bytes, Done, Moves, Stat, Range, Long, Off, Fault, Spent, NoSpare, NoMemory}
use Rattle.rssd_script.specs.Text.{hex_or_dash}

-- a reply's text, without its line feed
unfoldable pub reply_text : Reply → List ℕ
reply_text First = codes "first"
reply_text Second = codes "second"
reply_text Declined = codes "declined"
reply_text (Bytes bytes) = hex_or_dash bytes
reply_text Done = codes "ok"
reply_text (Moves n) = decimal n
reply_text (Stat first second declined moved erased) =
    codes "first " ++ decimal first ++ codes " second " ++ decimal second ++ codes " declined " ++ decimal declined
    ++ codes " moved " ++ decimal moved ++ codes " erased " ++ decimal erased
reply_text Range = codes "range"
reply_text Long = codes "long"
reply_text Off = codes "off"
reply_text Fault = codes "fault"
reply_text Spent = codes "spent"
reply_text NoSpare = codes "no spare"
reply_text NoMemory = codes "no memory"

-- what is given to the output for a reply
abbrev pub reply_line : Reply → List ℕ
reply_line reply = reply_text reply ++ 10 ∷ []

-- the same behind a tag and a space
abbrev pub tagged_line : ℕ → Reply → List ℕ
tagged_line tag reply = decimal tag ++ 32 ∷ reply_line reply
