-- `book::post::put_answer` meets its contract, answer by answer. Assumes nothing.
use Rattle.book.proofs.post.put_answer.Goals as goal

pub returns-in-Activated : goal.returns-in-Activated
returns-in-Activated c = rw c.in-Activated.is c.put_code.ensures

pub returns-in-Already : goal.returns-in-Already
returns-in-Already c = rw c.in-Already.is c.put_code-in-Already.ensures

pub returns-in-Cancelled : goal.returns-in-Cancelled
returns-in-Cancelled c = rw c.in-Cancelled.is c.put_code-in-Cancelled.ensures

pub returns-in-NotActive : goal.returns-in-NotActive
returns-in-NotActive c = rw c.in-NotActive.is c.put_code-in-NotActive.ensures

pub returns-in-Old : goal.returns-in-Old
returns-in-Old c = rw c.in-Old.is c.put_code-in-Old.ensures

pub returns-in-Account : goal.returns-in-Account
returns-in-Account c = rw c.in-Account.is c.put_refused.ensures

pub returns-in-Number : goal.returns-in-Number
returns-in-Number c = rw c.in-Number.is c.put_refused-in-Number.ensures

pub returns-in-Code : goal.returns-in-Code
returns-in-Code c = rw c.in-Code.is c.put_refused-in-Code.ensures

pub returns-in-Full : goal.returns-in-Full
returns-in-Full c = rw c.in-Full.is c.put_refused-in-Full.ensures
