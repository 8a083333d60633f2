-- Replies of one line.
use Rattle.rbbi_model.specs.Answers as reply
use Rattle.rbbi_model.specs.Answers.{Reply}
use Rattle.rbbi_script.specs.declared.saying.Said.{Said}
use Rattle.rbbi_script.specs.declared.saying.Said.TheVariants.{Place, Done, Yes, No, Number, Edited, Outside, Inside, TooLong}

-- the reply that is said
abbrev pub reply_of : Said → Reply
reply_of (Place place) = reply.Place place
reply_of Done = reply.Done
reply_of Yes = reply.Yes
reply_of No = reply.No
reply_of (Number number) = reply.Largest number
reply_of (Edited length) = reply.Edited length
reply_of Outside = reply.Outside
reply_of Inside = reply.Inside
reply_of TooLong = reply.TooLong
