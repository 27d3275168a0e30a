mod AsciiWords
mod OwnAnswers
mod PicturedStates
mod TalkEnds
