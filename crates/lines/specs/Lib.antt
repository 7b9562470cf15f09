-- What the contracts of `lines` and of the crates above it cite: the page's definitions, a line that comes in, and the laws of both.
pub mod Lines
pub mod LinesLaws
pub mod Answers
pub mod AnswersLaws
pub mod Automaton
pub mod AutomatonLaws
pub mod ReplyLaws
pub mod Putting
pub mod PuttingLaws
pub mod Starts
pub mod StartsLaws
pub mod Messages
pub mod MessagesLaws
pub mod Examples
