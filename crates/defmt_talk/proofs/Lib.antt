mod TalkLaws
