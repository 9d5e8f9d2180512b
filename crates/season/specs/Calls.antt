-- What a call of a depot replies and leaves: what the contracts of the depot's calls say, and no more.
use Rattle.depot.specs.Accounts.{create_answer, Created}
use Rattle.depot.specs.Drafts.{open_answer, Opened, book_answer, Booked, file_answer, drop_answer, or_declined, Filed, Dropped, Restarted}
use Rattle.depot.specs.Tills.{drafts}
use Rattle.depot.specs.Views.{View, draft_of}
use Rattle.season.specs.declared.call.Call.{Call}
use Rattle.season.specs.declared.call.Call.TheVariants.{Create, Open, Book, File, DropDraft, Restart}
use Rattle.season.specs.declared.call.Reply.{Reply}
use Rattle.season.specs.declared.call.Reply.TheVariants as said

abbrev pub reply_to : View → Call → Reply
reply_to v (Create part reserve) = said.Created (create_answer v part reserve)
reply_to v (Open till part) = said.Opened (open_answer v till part)
reply_to v (Book s b) = said.Booked s (book_answer v s b)
reply_to v (File s) = said.Filed (or_declined s (draft_of v s) (file_answer v s))
reply_to v (DropDraft s) = said.Dropped (or_declined s (draft_of v s) (drop_answer v s))
reply_to v Restart = said.Restarted (drafts v.tills)

-- the depot before and after a call
abbrev pub Does : View → Call → View → Type 0
Does v (Create part reserve) w = Created v part reserve (create_answer v part reserve) w
Does v (Open till part) w = Opened v till part (open_answer v till part) w
Does v (Book s b) w = Booked v s b (book_answer v s b) w
Does v (File s) w = Filed v s (or_declined s (draft_of v s) (file_answer v s)) w
Does v (DropDraft s) w = Dropped v s (or_declined s (draft_of v s) (drop_answer v s)) w
Does v Restart w = Restarted v (drafts v.tills) w
